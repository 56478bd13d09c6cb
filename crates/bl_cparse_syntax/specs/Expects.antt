-- What a reader of a text expects of the pieces that are left.
use Rattle.std.specs.Prelude.{◌≡◌, true, List, [], ◌∷◌}
use Rattle.bl_ctext.specs.Token.{Token}
use Rattle.bl_cparse_syntax.specs.Classes.{Class, matches}
use Rattle.bl_cparse_syntax.specs.Grammar.{Wanted, CDerives}
use Rattle.bl_cparse_syntax.specs.Stack.{IsGood}

-- the pieces that are left spell these classes and parts, up to the end
pub record Expects (wanted : List Wanted) (pieces : List Token) : Type 0 where
  pub good : IsGood wanted
  pub spells : CDerives wanted pieces []

-- a piece of the class stands next, and what follows is expected after it
pub record CContinuesWith (class : Class) (rest : List Wanted) (pieces : List Token) : Type 0 where
  pub next : Token
  pub left : List Token
  pub stands : pieces ≡ next ∷ left
  pub is : matches class next ≡ true
  pub expects : Expects rest left
