-- An expression in the form that hides its value from C compilers gives that value.
use Rattle.std.proofs.Common.{◌≡◌, ℕ, ℤ, pos, Bool, true, false, List, [], ◌∷◌, map, Option, Some, None, refl, sym, ap, ◌∙◌, subst}
use Rattle.std.specs.Prelude.{option_map, if◌then◌else◌}
use Rattle.bl_tree.specs.declared.text.Text.{Text}
use Rattle.bl_tree.specs.declared.c.CArg.{CArg}
use Rattle.bl_tree.specs.declared.c.CArg.TheVariants.{Value}
use Rattle.bl_tree.specs.declared.c.CExpr.{CExpr}
use Rattle.bl_tree.specs.declared.scalar.Op.TheVariants.{And}
use Rattle.bl_tree.specs.declared.scalar.Scalar.{Scalar as ScalarType}
use Rattle.bl_tree.specs.declared.scalar.Scalar.TheVariants.{Bool as OfBool, Int, Nat, Bits}
use Rattle.bl_tree.specs.Numbers.{is_one}
use Rattle.bl_tree.specs.Scalar.{in_range, is_int}
use Rattle.bl_eval.specs.declared.datum.Datum.{Datum}
use Rattle.bl_eval.specs.declared.datum.Datum.TheVariants.{Scalar as OfScalar}
use Rattle.bl_ctext_semantics.specs.Memory.{CValue, Memory, scalar, scalar_number}
use Rattle.bl_ctext_semantics.specs.Meaning.{ArgumentValue, Counted, Scope, at_once, called_after, each_of, next, value_c}
use Rattle.bl_emit_acts.specs.Expressions.{c_cast, cast_word, function_name, hidden}
use Rattle.bl_emit_acts.specs.Trees.{c_called, c_literal}
use Rattle.bl_emit_acts_laws_simulation.proofs.Evaluated.{called-value, literal-value, passes, two-value}
use Rattle.bl_emit_acts_laws_simulation.proofs.Numbers.{num}
use Rattle.bl_emit_acts_laws_simulation.proofs.Operators.{Known}
use Rattle.bl_emit_acts_laws_simulation.proofs.Shown.{hidden_same}

-- a value that has its number alone, or none
abbrev IsScalar : Option CValue → Type 0
IsScalar o = o ≡ option_map scalar (num o)

scalar_itself : (o : Option ℤ) → IsScalar (option_map scalar o)
scalar_itself None = refl
scalar_itself (Some n) = refl

module _ (scope : Scope) (here : Memory) where
  abbrev answer : CExpr → Option CValue
  answer code = (value_c code scope here).answer

  called_scalar : (name : Text) (args : List CArg) → IsScalar (answer (c_called name args))
  called_scalar name args =
      let passed : Counted (List ArgumentValue) = each_of (map passes args) scope here in
      subst (λ (c : Counted CValue). IsScalar c.answer) (sym (called-value scope here name args))
      (scalar_itself (called_after scope here name passed.count passed.answer).result)

  cast_scalar : (s : ScalarType) (code : CExpr) → IsScalar (answer (c_cast s s code))
  cast_scalar s code = called_scalar (function_name (cast_word (is_int s)) s) (Value code ∷ [])

  literal_scalar : (s : ScalarType) (n : ℤ) → IsScalar (answer (c_literal s n))
  literal_scalar s n = subst (λ (c : Counted CValue). IsScalar c.answer) (sym (literal-value scope here s n)) refl

  and_scalar : (n : ℕ) (o : Option CValue) (right : CExpr) → IsScalar (answer right) →
      IsScalar (next (record { count = n; answer = o }) (λ a. (if is_one (scalar_number a) then value_c right else at_once (pos 0)) scope here)).answer
  and_scalar n None right h = refl
  and_scalar n (Some v) right h = by (is_one (scalar_number v))
    where
      by : (holds : Bool) → IsScalar ((if holds then value_c right else at_once (pos 0)) scope here).answer
      by true = h
      by false = refl

  hidden_scalar : (s : ScalarType) (code : CExpr) → IsScalar (answer (hidden s code))
  hidden_scalar OfBool code =
      subst (λ (c : Counted CValue). IsScalar c.answer) (sym (two-value scope here And code (c_literal OfBool (pos 1))))
      (and_scalar (value_c code scope here).count (value_c code scope here).answer (c_literal OfBool (pos 1)) (literal_scalar OfBool (pos 1)))
  hidden_scalar (Int w) code = cast_scalar (Int w) code
  hidden_scalar (Nat w) code = cast_scalar (Nat w) code
  hidden_scalar (Bits w) code = cast_scalar (Bits w) code

  -- what gives a number gives it where it is hidden
  pub hidden_gives : (s : ScalarType) (code : CExpr) (held : CValue) → (value_c code scope here).answer ≡ Some held →
      in_range s (scalar_number held) ≡ true → (value_c (hidden s code) scope here).answer ≡ Some (scalar (scalar_number held))
  hidden_gives s code held is within =
      let datum : Option Datum = Some (OfScalar s (scalar_number held)) in
      let known : Known s (num (value_c code scope here).answer) datum = subst (λ o. Known s (num o) datum) (sym is) (refl, refl, within) in
      hidden_scalar s code ∙ ap (option_map scalar) (hidden_same [] scope here s code datum known ∙ ap num is)
