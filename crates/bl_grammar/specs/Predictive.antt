-- Grammars whose productions the next token decides: what is asked of their tables.
use Rattle.std.specs.Prelude.{◌≡◌, ℕ, ◌+◌, ◌<◌, ◌≤◌, Bool, true, false, cond, ◌&&◌, ◌||◌, ◌⊎◌, List, [], ◌∷◌, length, Option, Some, None, ⊤}
use Rattle.bl_grammar.specs.declared.symbol.Symbol.{Symbol}
use Rattle.bl_grammar.specs.declared.symbol.Symbol.TheVariants.{Terminal, Nonterminal}

-- what is known of a grammar's parts by tables
pub record Tables (K P T : Type 0) : Type 0 where
  -- the token can begin a production of the part that isn't empty
  pub begins : P → T → Bool
  -- the part may stand for nothing
  pub absent : P → Bool
  -- the token never comes directly after the part
  pub avoids : P → T → Bool
  -- the production that the next token decides on
  pub pick : P → T → Option (List (Symbol K P))
  -- the number of productions that can begin in turn before a token is read, below `limit` unless the part is absent
  pub rank : P → ℕ
  pub limit : ℕ
  -- a production that leads to an end, since its parts have less height, and tokens that such productions use
  pub easy : P → List (Symbol K P)
  pub height : P → ℕ
  pub sample : K → T
  -- the token asks for nothing where it stands next
  pub is_neutral : T → Bool

module _ {K P T : Type 0}
    (Produces : P → Option T → List (Symbol K P) → Type 0)
    (matches : K → T → Bool)
    (tables : Tables K P T) where
  -- the token can be the first of what the symbols stand for
  abbrev pub heads : List (Symbol K P) → T → Bool
  heads [] token = false
  heads (Terminal class ∷ symbols) token = matches class token
  heads (Nonterminal A ∷ symbols) token = tables.begins A token || (tables.absent A && heads symbols token)

  -- the symbols may stand for nothing
  abbrev pub vanish : List (Symbol K P) → Bool
  vanish [] = true
  vanish (Terminal class ∷ symbols) = false
  vanish (Nonterminal A ∷ symbols) = tables.absent A && vanish symbols

  -- the table `begins` is right for a production: it is empty, or its first symbol is a token's or a part that stands for something
  abbrev pub IsHeaded : P → Option T → List (Symbol K P) → Type 0
  IsHeaded A next [] = tables.absent A ≡ true
  IsHeaded A next (Terminal class ∷ rest) = (token : T) → next ≡ Some token → matches class token ≡ true → tables.begins A token ≡ true
  IsHeaded A next (Nonterminal B ∷ rest) = (tables.absent B ≡ false)
      × ((token : T) → next ≡ Some token → tables.begins B token ≡ true → tables.begins A token ≡ true)

  -- the table `avoids` is right for a production: what can follow a part of it isn't avoided
  abbrev pub Follow : P → List (Symbol K P) → Type 0
  Follow A [] = ⊤
  Follow A (Terminal class ∷ rest) = Follow A rest
  Follow A (Nonterminal B ∷ rest) =
      ((token : T) → heads rest token ≡ true → tables.avoids B token ≡ false)
      × (vanish rest ≡ true → (token : T) → tables.avoids A token ≡ false → tables.avoids B token ≡ false)
      × Follow A rest

  -- the next token decides on this production wherever it can be used
  abbrev pub IsForced : P → T → List (Symbol K P) → Type 0
  IsForced A token [] = tables.avoids A token ≡ false → tables.pick A token ≡ Some []
  IsForced A token (Terminal class ∷ rest) = matches class token ≡ true → tables.pick A token ≡ Some (Terminal class ∷ rest)
  IsForced A token (Nonterminal B ∷ rest) = tables.begins B token ≡ true → tables.pick A token ≡ Some (Nonterminal B ∷ rest)

  -- a production begins with a token or with a part of less rank, or it is empty and its part absent
  abbrev pub Descends : P → List (Symbol K P) → Type 0
  Descends A [] = tables.absent A ≡ true
  Descends A (Terminal class ∷ rest) = ⊤
  Descends A (Nonterminal B ∷ rest) = (tables.absent B ≡ false) × (tables.absent A ≡ true → tables.rank B < tables.limit)
      × (tables.absent A ≡ false → tables.rank B < tables.rank A)

  -- the parts among the symbols have less height
  abbrev pub AreLower : ℕ → List (Symbol K P) → Type 0
  AreLower height [] = ⊤
  AreLower height (Terminal class ∷ rest) = AreLower height rest
  AreLower height (Nonterminal B ∷ rest) = (tables.height B < height) × AreLower height rest

  -- the token that stands next, if any, asks for nothing
  abbrev pub IsNeutral : Option T → Type 0
  IsNeutral None = ⊤
  IsNeutral (Some token) = tables.is_neutral token ≡ true

  -- the tables are right, and one token decides on each production
  pub record IsPredictive : Type 0 where
    pub headed : {A : P} {next : Option T} {production : List (Symbol K P)} → Produces A next production → IsHeaded A next production
    pub follow : {A : P} {next : Option T} {production : List (Symbol K P)} → Produces A next production → Follow A production
    pub forced : {A : P} {token : T} {production : List (Symbol K P)} → Produces A (Some token) production → IsForced A token production
    pub picked : (A : P) (token : T) (production : List (Symbol K P)) → tables.pick A token ≡ Some production → Produces A (Some token) production
    pub descends : (A : P) (token : T) (production : List (Symbol K P)) → tables.pick A token ≡ Some production → Descends A production
    pub ranked : (A : P) → (0 < tables.rank A) × (0 < tables.limit) × (tables.rank A ≤ tables.limit)
    pub ends : (A : P) → tables.absent A ≡ true → Produces A None []
    pub easy : (A : P) (next : Option T) → IsNeutral next → Produces A next (tables.easy A)
    pub lower : (A : P) → AreLower (tables.height A) (tables.easy A)
    pub samples : (class : K) → (matches class (tables.sample class) ≡ true) × (tables.is_neutral (tables.sample class) ≡ true)

  -- what the symbols can begin with before this end: the token that stands next, or the end
  abbrev pub Leads : List (Symbol K P) → Option T → Option T → Type 0
  Leads [] next end = next ≡ end
  Leads (Terminal class ∷ symbols) next end = (token : T) × (next ≡ Some token) × (matches class token ≡ true)
  Leads (Nonterminal A ∷ symbols) next end =
      ((token : T) × (next ≡ Some token) × (tables.begins A token ≡ true)) ⊎ ((tables.absent A ≡ true) × Leads symbols next end)

  -- no part is followed by what it avoids
  abbrev pub Good : List (Symbol K P) → Type 0
  Good [] = ⊤
  Good (Terminal class ∷ symbols) = Good symbols
  Good (Nonterminal A ∷ symbols) = ((token : T) → Leads symbols (Some token) None → tables.avoids A token ≡ false) × Good symbols

  -- a bound on the expansions of a stack before its next token is read
  abbrev pub level : List (Symbol K P) → ℕ
  level [] = 0
  level (Terminal class ∷ symbols) = 0
  level (Nonterminal A ∷ symbols) = cond (tables.absent A) (tables.limit + length symbols) (tables.rank A)
