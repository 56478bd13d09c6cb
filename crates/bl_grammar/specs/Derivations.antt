-- What the symbols of a grammar stand for, and which tokens begin a text of it.
use Rattle.std.specs.Prelude.{◌≡◌, Bool, true, List, [], ◌∷◌, ◌++◌, Option, Some, None}
use Rattle.bl_grammar.specs.declared.symbol.Symbol.{Symbol}
use Rattle.bl_grammar.specs.declared.symbol.Symbol.TheVariants.{Terminal, Nonterminal}

-- the token that stands next, if there is one
abbrev pub next_of : {T : Type 0} → List T → Option T
next_of [] = None
next_of (token ∷ tokens) = Some token

module _ {K P T : Type 0}
    -- the part may stand for these symbols before this next token (or the end)
    (Produces : P → Option T → List (Symbol K P) → Type 0)
    -- the token is of the class
    (matches : K → T → Bool) where
  -- the symbols derive the tokens up to those that are left
  pub data Derives : List (Symbol K P) → List T → List T → Type 0 where
    done : {left : List T} → Derives [] left left
    terminal : {class : K} {token : T} {symbols : List (Symbol K P)} {tokens left : List T}
        → matches class token ≡ true → Derives symbols tokens left → Derives (Terminal class ∷ symbols) (token ∷ tokens) left
    part : {A : P} {production symbols : List (Symbol K P)} {tokens between left : List T}
        → Produces A (next_of tokens) production → Derives production tokens between → Derives symbols between left
        → Derives (Nonterminal A ∷ symbols) tokens left

  -- the tokens, with some that follow, are a text of the part
  abbrev pub Begins : P → List T → Type 0
  Begins A tokens = (more : List T) × Derives (Nonterminal A ∷ []) (tokens ++ more) []
