-- Laws of spelled expressions.
use Rattle.std.proofs.Common.{◌≡◌, ℕ, ◌+◌, ◌≤◌, List, [], ◌∷◌, ◌++◌, ap, ◌∙◌, arith}
use Rattle.bl_tree.specs.declared.scalar.Op.{Op}
use Rattle.bl_tree.specs.declared.token.TokenKind.{TokenKind}
use Rattle.bl_tree.specs.declared.token.TokenKind.TheVariants.{Sign}
use Rattle.bl_lex.specs.declared.sign.TheConstants.{MINUS}
use Rattle.bl_parse.specs.At.{Takes}
use Rattle.bl_parse.specs.Operators.{IsPrefix, SpellsPrefix}
use Rattle.bl_tree.specs.declared.place.Place.{Place}
use Rattle.bl_tree.specs.declared.token.Token.{Token}
use Rattle.bl_parse_tree.specs.declared.expr.RawExpr.{RawExpr}
use Rattle.bl_parse_tree.specs.declared.expr.RawExprKind.{RawExprKind}
use Rattle.bl_parse_tree.specs.declared.expr.RawPart.{RawPart}
use Rattle.bl_parse_tree.specs.declared.name.Name.{Name}
use Rattle.bl_parse.specs.Expressions.{expr, target, SpellsExpr}

pub le_through : {a b c : ℕ} → a ≤ b → b ≤ c → a ≤ c
le_through e f = omega arith

pub placed : (what : RawExprKind) {p q : Place} → p ≡ q → expr p what ≡ expr q what
placed what e = ap (λ place. expr place what) e

-- what is spelled at a level is spelled at a looser one
pub looser : {text : List ℕ} {tokens : List Token} {level : ℕ} {e : RawExpr} {from to : ℕ} (other : ℕ) → other ≤ level
    → SpellsExpr text tokens level e from to → SpellsExpr text tokens other e from to
looser other le (SpellsExpr.two own a op b is) = SpellsExpr.two (le_through le own) a op b is
looser other le (SpellsExpr.cast own a word ty is) = SpellsExpr.cast (le_through le own) a word ty is
looser other le (SpellsExpr.negative own minus number is) = SpellsExpr.negative (le_through le own) minus number is
looser other le (SpellsExpr.one own at no_number a is) = SpellsExpr.one (le_through le own) at no_number a is
looser other le (SpellsExpr.number at is) = SpellsExpr.number at is
looser other le (SpellsExpr.truth at is) = SpellsExpr.truth at is
looser other le (SpellsExpr.before at name is) = SpellsExpr.before at name is
looser other le (SpellsExpr.read place is) = SpellsExpr.read place is
looser other le (SpellsExpr.call name inputs none is) = SpellsExpr.call name inputs none is
looser other le (SpellsExpr.parentheses opens e closes) = SpellsExpr.parentheses opens e closes

-- the same of one part, and of two
pub placed_by : {A : Type 0} (f : A → RawExprKind) {p q : Place} {a b : A} → p ≡ q → a ≡ b → expr p (f a) ≡ expr q (f b)
placed_by f {q = q} {a = a} e g = ap (λ place. expr place (f a)) e ∙ ap (λ x. expr q (f x)) g

-- a minus before an operand is the sign
pub minus_sign : {tokens : List Token} {from to : ℕ} → SpellsPrefix tokens Op.Minus from to → Takes tokens (Sign MINUS) from to
minus_sign at = minus_kind at.kind at.token at.is where
  minus_kind : {tokens : List Token} {from to : ℕ} (kind : TokenKind) → Takes tokens kind from to → IsPrefix kind Op.Minus →
      Takes tokens (Sign MINUS) from to
  minus_kind kind token (IsPrefix.negation) = token

pub second_next : (a : ℕ) → a + 2 ≡ (a + 1) + 1
second_next a = omega arith

-- a list with one element, pushed to an empty one
pub pushed_first : {A : Type 0} {old new : List A} {x : A} → old ≡ [] → new ≡ old ++ (x ∷ []) → new ≡ x ∷ []
pushed_first {x = x} e g = g ∙ ap (λ xs. xs ++ (x ∷ [])) e

pub placed_target : (root : Name) (parts : List RawPart) {p q : Place} → p ≡ q → target p root parts ≡ target q root parts
placed_target root parts e = ap (λ place. target place root parts) e
