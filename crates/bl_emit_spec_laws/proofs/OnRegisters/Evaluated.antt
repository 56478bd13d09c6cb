-- What the parts of made C texts come to.
use Rattle.std.proofs.Common.{◌≡◌, ℤ, Bool, List, [], ◌∷◌, map, Some, refl, subst}
use Rattle.std.specs.Prelude.{option_map}
use Rattle.bl_tree.specs.declared.text.Text.{Text}
use Rattle.bl_tree.specs.declared.scalar.Op.{Op}
use Rattle.bl_tree.specs.declared.scalar.Op.TheVariants.{Not}
use Rattle.bl_tree.specs.declared.scalar.Scalar.{Scalar}
use Rattle.bl_tree.specs.declared.scalar.Scalar.TheVariants.{Bool as OfBool}
use Rattle.bl_tree.specs.declared.c.CStep.{CStep, fold-roll-CStep}
use Rattle.bl_tree.specs.declared.c.CPlace.{CPlace, fold-roll-CPlace}
use Rattle.bl_tree.specs.declared.c.CExpr.{CExpr, fold-roll-CExpr, roll-CExpr}
use Rattle.bl_tree.specs.declared.c.CExprKind.{CExprKind, CExprKind-F, fold-roll-CExprKind}
use Rattle.bl_tree.specs.declared.c.CExprKind.TheVariants as expression
use Rattle.bl_tree.specs.Numbers.{checked_one_of}
use Rattle.bl_ctext_semantics.specs.Memory.{member, CValue, Memory, scalar, scalar_number, value_at}
use Rattle.bl_ctext_semantics.specs.Meaning.{Counted, given, next}
use Rattle.bl_ctext_semantics.specs.Meaning.{Scope, value_c, location_c, each_of, further, named_location, two_values}
use Rattle.bl_ctext_semantics.specs.Meaning.{way_of}
use Rattle.bl_emit_acts.specs.Trees.{nowhere, c_literal, c_not, c_place, c_read, c_step, c_two}
use Rattle.bl_emit_acts_laws_simulation.proofs.Evaluated.{ways, kind}

module _ (scope : Scope) (memory : Memory) where
  literal-open : (ty : Scalar) (n : ℤ) → value_c (kind (CExprKind-F.Literal ty n)) scope memory ≡ given (Some (scalar n))
  literal-open ty n = rw (fold-roll-CExpr, fold-roll-CExprKind) refl

  pub literal-value : (ty : Scalar) (n : ℤ) → value_c (c_literal ty n) scope memory ≡ given (Some (scalar n))
  literal-value ty n =
      subst (λ (k : CExprKind). value_c (roll-CExpr (record { place = nowhere; what = k })) scope memory ≡ given (Some (scalar n)))
      (expression.rolls-Literal ty n) (literal-open ty n)

  abbrev reads : CPlace → Counted CValue
  reads place = next (location_c place scope memory) (λ p. given (Some (value_at memory p)))

  read-open : (place : CPlace) → value_c (kind (CExprKind-F.Read place)) scope memory ≡ reads place
  read-open place = rw (fold-roll-CExpr, fold-roll-CExprKind) refl

  pub read-value : (place : CPlace) → value_c (c_read place) scope memory ≡ reads place
  read-value place =
      subst (λ (k : CExprKind). value_c (roll-CExpr (record { place = nowhere; what = k })) scope memory ≡ reads place)
      (expression.rolls-Read place) (read-open place)

  abbrev negates : CExpr → Counted CValue
  negates operand = next (value_c operand scope memory) (λ a. given (option_map scalar (checked_one_of Not OfBool (scalar_number a))))

  not-open : (operand : CExpr) → value_c (kind (CExprKind-F.Not operand)) scope memory ≡ negates operand
  not-open operand = rw (fold-roll-CExpr, fold-roll-CExprKind) refl

  pub not-value : (operand : CExpr) → value_c (c_not operand) scope memory ≡ negates operand
  not-value operand =
      subst (λ (k : CExprKind). value_c (roll-CExpr (record { place = nowhere; what = k })) scope memory ≡ negates operand)
      (expression.rolls-Not operand) (not-open operand)

  two-open : (op : Op) (left right : CExpr) → value_c (kind (CExprKind-F.Two op left right)) scope memory
      ≡ two_values op (value_c left) (value_c right) scope memory
  two-open op left right = rw (fold-roll-CExpr, fold-roll-CExprKind) refl

  pub two-value : (op : Op) (left right : CExpr) → value_c (c_two op left right) scope memory
      ≡ two_values op (value_c left) (value_c right) scope memory
  two-value op left right =
      subst (λ (k : CExprKind). value_c (roll-CExpr (record { place = nowhere; what = k })) scope memory
      ≡ two_values op (value_c left) (value_c right) scope memory)
      (expression.rolls-Two op left right) (two-open op left right)

  -- ---- places

  pub step-way : (name : Text) → ways (c_step name) scope memory ≡ given (Some (member name ∷ []))
  step-way name = rw fold-roll-CStep refl

  pub place-location : (through : Bool) (name : Text) (steps : List CStep) → location_c (c_place through name steps) scope memory
      ≡ next (each_of (map ways steps) scope memory) (λ ways. given (Some (further (named_location scope through name) (way_of ways))))
  place-location through name steps = rw fold-roll-CPlace refl
