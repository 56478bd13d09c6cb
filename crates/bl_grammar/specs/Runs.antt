-- What a stack of symbols says of the tokens read so far.
use Rattle.std.specs.Prelude.{Bool, true, false, List, [], ◌∷◌, ◌++◌, Option}
use Rattle.bl_grammar.specs.declared.symbol.Symbol.{Symbol}
use Rattle.bl_grammar.specs.declared.symbol.Symbol.TheVariants.{Nonterminal}
use Rattle.bl_grammar.specs.Derivations.{Derives}
use Rattle.bl_grammar.specs.Predictive.{Tables, Good}

module _ {K P T : Type 0}
    (Produces : P → Option T → List (Symbol K P) → Type 0)
    (matches : K → T → Bool)
    (tables : Tables K P T) where
  -- the symbols stand for a whole text
  abbrev pub Spells : List (Symbol K P) → List T → Type 0
  Spells symbols tokens = Derives Produces matches symbols tokens []

  -- the stack derives exactly the token lists that complete a text of the part after these tokens
  pub record StackCompletes (A : P) (front : List T) (stack : List (Symbol K P)) : Type 0 where
    pub good : Good Produces matches tables stack
    pub there : (more : List T) → Spells (Nonterminal A ∷ []) (front ++ more) → Spells stack more
    pub back : (more : List T) → Spells stack more → Spells (Nonterminal A ∷ []) (front ++ more)

  -- two stacks derive the same token lists that begin with this token
  pub record StackExpands (token : T) (stack opened : List (Symbol K P)) : Type 0 where
    pub good : Good Produces matches tables opened
    pub there : (more : List T) → Spells stack (token ∷ more) → Spells opened (token ∷ more)
    pub back : (more : List T) → Spells opened (token ∷ more) → Spells stack (token ∷ more)

  -- the second stack derives exactly what the first derives after this token
  pub record StackTakes (token : T) (stack rest : List (Symbol K P)) : Type 0 where
    pub good : Good Produces matches tables rest
    pub there : (more : List T) → Spells stack (token ∷ more) → Spells rest more
    pub back : (more : List T) → Spells rest more → Spells stack (token ∷ more)

  -- the stack stands for nothing that begins with this token
  abbrev pub StackRefuses : T → List (Symbol K P) → Type 0
  StackRefuses token stack = (more : List T) → ¬ Spells stack (token ∷ more)

  -- whether the token is taken, and what is left then
  abbrev pub StackAnswers : T → List (Symbol K P) → Bool → List (Symbol K P) → Type 0
  StackAnswers token stack true rest = StackTakes token stack rest
  StackAnswers token stack false rest = StackRefuses token stack
