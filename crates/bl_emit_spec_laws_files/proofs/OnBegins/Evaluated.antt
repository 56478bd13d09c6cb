-- What the parts of made C texts come to.
use Rattle.std.proofs.Common.{◌≡◌, ℤ, Bool, List, [], ◌∷◌, map, Some, refl, ◌∙◌, subst}
use Rattle.bl_tree.specs.declared.text.Text.{Text}
use Rattle.bl_tree.specs.declared.scalar.Scalar.{Scalar}
use Rattle.bl_tree.specs.declared.c.CArg.{CArg, CArg-F, fold-roll-CArg, roll-CArg}
use Rattle.bl_tree.specs.declared.c.CArg.TheVariants as argument
use Rattle.bl_tree.specs.declared.c.CCall.{fold-roll-CCall}
use Rattle.bl_tree.specs.declared.c.CStep.{CStep, fold-roll-CStep}
use Rattle.bl_tree.specs.declared.c.CPlace.{CPlace, fold-roll-CPlace}
use Rattle.bl_tree.specs.declared.c.CExpr.{CExpr, fold-roll-CExpr, roll-CExpr}
use Rattle.bl_tree.specs.declared.c.CExprKind.{CExprKind, CExprKind-F, fold-roll-CExprKind}
use Rattle.bl_tree.specs.declared.c.CExprKind.TheVariants as expression
use Rattle.bl_ctext_semantics.specs.Memory.{member, CValue, Memory, scalar, value_at}
use Rattle.bl_ctext_semantics.specs.Meaning.{Counted, given, next, ArgumentValue, by_value, CallResult}
use Rattle.bl_ctext_semantics.specs.Meaning.{Scope, value_c, location_c, each_of, further, named_location}
use Rattle.bl_ctext_semantics.specs.Meaning.{call_c, called_after, way_of}
use Rattle.bl_emit_acts.specs.Trees.{nowhere, c_call, c_literal, c_place, c_read, c_step}
use Rattle.bl_emit_acts_laws_simulation.proofs.Evaluated.{ways, kind, passes}

module _ (scope : Scope) (memory : Memory) where
  literal-open : (ty : Scalar) (n : ℤ) → value_c (kind (CExprKind-F.Literal ty n)) scope memory ≡ given (Some (scalar n))
  literal-open ty n = rw (fold-roll-CExpr, fold-roll-CExprKind) refl

  pub literal-value : (ty : Scalar) (n : ℤ) → value_c (c_literal ty n) scope memory ≡ given (Some (scalar n))
  literal-value ty n =
      subst (λ (k : CExprKind). value_c (roll-CExpr (record { place = nowhere; what = k })) scope memory ≡ given (Some (scalar n)))
      (expression.rolls-Literal ty n) (literal-open ty n)

  abbrev reads : CPlace → Counted CValue
  reads place = next (location_c place scope memory) (λ p. given (Some (value_at memory p)))

  read-open : (place : CPlace) → value_c (kind (CExprKind-F.Read place)) scope memory ≡ reads place
  read-open place = rw (fold-roll-CExpr, fold-roll-CExprKind) refl

  pub read-value : (place : CPlace) → value_c (c_read place) scope memory ≡ reads place
  read-value place =
      subst (λ (k : CExprKind). value_c (roll-CExpr (record { place = nowhere; what = k })) scope memory ≡ reads place)
      (expression.rolls-Read place) (read-open place)

  -- ---- calls

  abbrev calls : Text → Counted (List ArgumentValue) → CallResult
  calls name passed = called_after scope memory name passed.count passed.answer

  pub call-does : (name : Text) (args : List CArg) → call_c (c_call name args) scope memory ≡ calls name (each_of (map passes args) scope memory)
  call-does name args = rw fold-roll-CCall refl

  value_arg-open : (e : CExpr) →
      passes (roll-CArg (CArg-F.Value e)) scope memory ≡ next (value_c e scope memory) (λ v. given (Some (by_value v)))
  value_arg-open e = rw fold-roll-CArg refl

  pub value-arg : (e : CExpr) → passes (argument.Value e) scope memory ≡ next (value_c e scope memory) (λ v. given (Some (by_value v)))
  value-arg e = subst (λ (a : CArg). passes a scope memory ≡ next (value_c e scope memory) (λ v. given (Some (by_value v))))
      (argument.rolls-Value e) (value_arg-open e)

  -- ---- places

  pub step-way : (name : Text) → ways (c_step name) scope memory ≡ given (Some (member name ∷ []))
  step-way name = rw fold-roll-CStep refl

  pub place-location : (through : Bool) (name : Text) (steps : List CStep) → location_c (c_place through name steps) scope memory
      ≡ next (each_of (map ways steps) scope memory) (λ ways. given (Some (further (named_location scope through name) (way_of ways))))
  place-location through name steps = rw fold-roll-CPlace refl
