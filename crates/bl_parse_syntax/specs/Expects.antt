-- What a reader of a program expects of the tokens that are left.
use Rattle.std.specs.Prelude.{◌≡◌, true, List, [], ◌∷◌}
use Rattle.bl_parse_syntax.specs.declared.grammar.Class.{Class}
use Rattle.bl_parse_syntax.specs.declared.grammar.TokenView.{TokenView}
use Rattle.bl_parse_syntax.specs.Grammar.{Piece, matches, SourceDerives}
use Rattle.bl_parse_syntax.specs.Stack.{IsGood}

-- the tokens that are left spell these symbols, up to the end
pub record Expects (symbols : List Piece) (tokens : List TokenView) : Type 0 where
  pub good : IsGood symbols
  pub spells : SourceDerives symbols tokens []

-- a token of the class stands next, and what follows is expected after it
pub record SourceContinuesWith (class : Class) (rest : List Piece) (tokens : List TokenView) : Type 0 where
  pub next : TokenView
  pub left : List TokenView
  pub stands : tokens ≡ next ∷ left
  pub is : matches class next ≡ true
  pub expects : Expects rest left
