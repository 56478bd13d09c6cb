-- The numbers that comparisons, `!`, `&&` and `||` give.
use Rattle.std.proofs.Common.{◌≡◌, ℕ, ℤ, pos, Bool, true, false, Option, Some, None, refl, ap}
use Rattle.std.proofs.Common.{◌∙◌}
use Rattle.std.specs.Prelude.{option_and_then, option_map, if◌then◌else◌}
use Rattle.bl_tree.specs.declared.scalar.Op.{Op}
use Rattle.bl_tree.specs.declared.scalar.Op.TheVariants.{And, Or, Not}
use Rattle.bl_tree.specs.declared.scalar.Scalar.TheVariants.{Bool as OfBool}
use Rattle.bl_tree.specs.declared.c.CExpr.{CExpr}
use Rattle.bl_tree.specs.Numbers.{checked_of, checked_one_of, is_one}
use Rattle.bl_ctext_semantics.specs.Memory.{CValue, Memory, scalar, scalar_number}
use Rattle.bl_ctext_semantics.specs.Meaning.{Counted, Evaluates, Scope, at_once, given, next}
use Rattle.bl_ctext_semantics.specs.Meaning.{two_values, value_c}
use Rattle.bl_emit_acts.specs.Trees.{c_not, c_two}
use Rattle.bl_emit_spec_laws.proofs.OnRegisters.Evaluated.{not-value, two-value}

-- the number of an answer
abbrev pub num : Option CValue → Option ℤ
num = option_map scalar_number

pub num-scalar : (o : Option ℤ) → num (option_map scalar o) ≡ o
num-scalar None = refl
num-scalar (Some n) = refl

module _ (scope : Scope) (memory : Memory) where
  -- the number that an expression gives
  abbrev pub gives : CExpr → Option ℤ
  gives e = num (value_c e scope memory).answer

  not_by : (n : ℕ) (o : Option CValue) →
      num (next (record { count = n; answer = o }) (λ a. given (option_map scalar (checked_one_of Not OfBool (scalar_number a))))).answer
      ≡ option_and_then (checked_one_of Not OfBool) (num o)
  not_by n None = refl
  not_by n (Some v) = refl

  pub not-number : (e : CExpr) → gives (c_not e) ≡ option_and_then (checked_one_of Not OfBool) (gives e)
  not-number e = ap (λ (c : Counted CValue). num c.answer) (not-value scope memory e) ∙ not_by (value_c e scope memory).count (value_c e scope memory).answer

  both_by : (f : ℤ → ℤ → Option ℤ) (m n : ℕ) (o p : Option CValue) →
      num (next (record { count = m; answer = o }) (λ a. next (record { count = n; answer = p })
      (λ b. given (option_map scalar (f (scalar_number a) (scalar_number
      b)))))).answer
      ≡ option_and_then (λ x. option_and_then (f x) (num p)) (num o)
  both_by f m n None p = refl
  both_by f m n (Some v) None = refl
  both_by f m n (Some v) (Some w) = num-scalar (f (scalar_number v) (scalar_number w))

  -- a comparison
  pub compare-number : (op : Op) (e f : CExpr) →
      ((left right : Evaluates CValue) → two_values op left right scope memory
      ≡ next (left scope memory) (λ a. next (right scope memory) (λ b. given (option_map scalar (checked_of op OfBool (scalar_number a) (scalar_number b)))))) →
      gives (c_two op e f) ≡ option_and_then (λ x. option_and_then (checked_of op OfBool x) (gives f)) (gives e)
  compare-number op e f is =
      ap (λ (c : Counted CValue). num c.answer) (two-value scope memory op e f ∙ is (value_c e) (value_c f))
      ∙ both_by (checked_of op OfBool) (value_c e scope memory).count (value_c f scope memory).count (value_c e scope memory).answer
      (value_c f scope memory).answer

  and_if : (holds : Bool) (n : ℕ) (right : Evaluates CValue) →
      num (next (record { count = n; answer = Some (scalar (pos 0)) }) (λ a. (if holds then right else at_once (pos 0)) scope memory)).answer
      ≡ (if holds then num (right scope memory).answer else Some (pos 0))
  and_if true n right = refl
  and_if false n right = refl

  and_by : (n : ℕ) (o : Option CValue) (right : Evaluates CValue) →
      num (next (record { count = n; answer = o }) (λ a. (if is_one (scalar_number a) then right else at_once (pos 0)) scope memory)).answer
      ≡ option_and_then (λ x. if is_one x then num (right scope memory).answer else Some (pos 0)) (num o)
  and_by n None right = refl
  and_by n (Some v) right = and_if (is_one (scalar_number v)) n right

  -- `&&`
  pub and-number : (e f : CExpr) → gives (c_two And e f) ≡ option_and_then (λ x. if is_one x then gives f else Some (pos 0)) (gives e)
  and-number e f =
      ap (λ (c : Counted CValue). num c.answer) (two-value scope memory And e f) ∙ and_by (value_c e scope memory).count
      (value_c e scope memory).answer (value_c f)

  or_if : (holds : Bool) (n : ℕ) (right : Evaluates CValue) →
      num (next (record { count = n; answer = Some (scalar (pos 0)) }) (λ a. (if holds then at_once (pos 1) else right) scope memory)).answer
      ≡ (if holds then Some (pos 1) else num (right scope memory).answer)
  or_if true n right = refl
  or_if false n right = refl

  or_by : (n : ℕ) (o : Option CValue) (right : Evaluates CValue) →
      num (next (record { count = n; answer = o }) (λ a. (if is_one (scalar_number a) then at_once (pos 1) else right) scope memory)).answer
      ≡ option_and_then (λ x. if is_one x then Some (pos 1) else num (right scope memory).answer) (num o)
  or_by n None right = refl
  or_by n (Some v) right = or_if (is_one (scalar_number v)) n right

  -- `||`
  pub or-number : (e f : CExpr) → gives (c_two Or e f) ≡ option_and_then (λ x. if is_one x then Some (pos 1) else gives f) (gives e)
  or-number e f =
      ap (λ (c : Counted CValue). num c.answer) (two-value scope memory Or e f) ∙ or_by (value_c e scope memory).count
      (value_c e scope memory).answer (value_c f)
