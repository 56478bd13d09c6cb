-- What the parts of made C texts come to.
use Rattle.std.proofs.Common.{◌≡◌, ℕ, ℤ, pos, Bool, List, [], ◌∷◌, map, Some, refl, ap}
use Rattle.std.proofs.Common.{◌∙◌, subst}
use Rattle.std.specs.Prelude.{option_map}
use Rattle.bl_tree.specs.declared.text.Text.{Text}
use Rattle.bl_tree.specs.declared.scalar.Op.{Op}
use Rattle.bl_tree.specs.declared.scalar.Op.TheVariants.{Not}
use Rattle.bl_tree.specs.declared.scalar.Scalar.{Scalar}
use Rattle.bl_tree.specs.declared.scalar.Scalar.TheVariants.{Bool as OfBool}
use Rattle.bl_tree.specs.declared.c.CArg.{CArg, CArg-F, fold-CArg, fold-roll-CArg, roll-CArg}
use Rattle.bl_tree.specs.declared.c.CArg.TheVariants as argument
use Rattle.bl_tree.specs.declared.c.CCall.{CCall, fold-roll-CCall}
use Rattle.bl_tree.specs.declared.c.CStep.{CStep, fold-CStep, fold-roll-CStep}
use Rattle.bl_tree.specs.declared.c.CPlace.{CPlace, fold-roll-CPlace}
use Rattle.bl_tree.specs.declared.c.CIndex.{CIndex, fold-roll-CIndex}
use Rattle.bl_tree.specs.declared.c.CExpr.{CExpr, fold-roll-CExpr, roll-CExpr}
use Rattle.bl_tree.specs.declared.c.CExprKind.{CExprKind, CExprKind-F, fold-roll-CExprKind, roll-CExprKind}
use Rattle.bl_tree.specs.declared.c.CExprKind.TheVariants as expression
use Rattle.bl_tree.specs.Numbers.{checked_one_of}
use Rattle.bl_ctext_semantics.specs.Memory.{Projection, member, Location, CValue, Memory, scalar, scalar_number, value_at}
use Rattle.bl_ctext_semantics.specs.Meaning.{Counted, Evaluates, given, next, ArgumentValue, by_value, by_address, CallResult, Scope, called_after, result_of}
use Rattle.bl_ctext_semantics.specs.Meaning.{value_c, location_c, call_c, each_of, element_projection, further, named_location, two_values, way_of, arg_step}
use Rattle.bl_ctext_semantics.specs.Meaning.{kind_step, call_step, expr_step, index_step, place_step, step_step}
use Rattle.bl_ctext_semantics.specs.Builtin.{index_within}
use Rattle.bl_emit_acts.specs.Trees.{nowhere, c_call, c_called, c_element, c_index, c_literal, c_not, c_place, c_read, c_step, c_two}

abbrev pub kind : CExprKind-F CArg CExprKind CCall CExpr CIndex CPlace CStep → CExpr
kind layer = roll-CExpr (record { place = nowhere; what = roll-CExprKind layer })

-- what a step adds to a way
abbrev pub ways : CStep → Evaluates (List Projection)
ways = fold-CStep (Evaluates ArgumentValue) (Evaluates CValue) (Scope → Memory → CallResult) (Evaluates CValue) (Evaluates (List Projection))
    (Evaluates Location) (Evaluates (List Projection)) arg_step kind_step call_step expr_step index_step place_step step_step

-- what an argument passes
abbrev pub passes : CArg → Evaluates ArgumentValue
passes = fold-CArg (Evaluates ArgumentValue) (Evaluates CValue) (Scope → Memory → CallResult) (Evaluates CValue) (Evaluates (List Projection))
    (Evaluates Location) (Evaluates (List Projection)) arg_step kind_step call_step expr_step index_step place_step step_step

-- ---- answers

module _ (scope : Scope) (memory : Memory) where
  -- ---- expressions

  literal-open : (ty : Scalar) (n : ℤ) → value_c (kind (CExprKind-F.Literal ty n)) scope memory ≡ given (Some (scalar n))
  literal-open ty n = rw (fold-roll-CExpr, fold-roll-CExprKind) refl

  pub literal-value : (ty : Scalar) (n : ℤ) → value_c (c_literal ty n) scope memory ≡ given (Some (scalar n))
  literal-value ty n =
      subst (λ (k : CExprKind). value_c (roll-CExpr (record { place = nowhere; what = k })) scope memory ≡ given (Some (scalar n)))
      (expression.rolls-Literal ty n) (literal-open ty n)

  abbrev reads : CPlace → Counted CValue
  reads place = next (location_c place scope memory) (λ p. given (Some (value_at memory p)))

  read-open : (place : CPlace) → value_c (kind (CExprKind-F.Read place)) scope memory ≡ reads place
  read-open place = rw (fold-roll-CExpr, fold-roll-CExprKind) refl

  pub read-value : (place : CPlace) → value_c (c_read place) scope memory ≡ reads place
  read-value place =
      subst (λ (k : CExprKind). value_c (roll-CExpr (record { place = nowhere; what = k })) scope memory ≡ reads place)
      (expression.rolls-Read place) (read-open place)

  abbrev negates : CExpr → Counted CValue
  negates operand = next (value_c operand scope memory) (λ a. given (option_map scalar (checked_one_of Not OfBool (scalar_number a))))

  not-open : (operand : CExpr) → value_c (kind (CExprKind-F.Not operand)) scope memory ≡ negates operand
  not-open operand = rw (fold-roll-CExpr, fold-roll-CExprKind) refl

  pub not-value : (operand : CExpr) → value_c (c_not operand) scope memory ≡ negates operand
  not-value operand =
      subst (λ (k : CExprKind). value_c (roll-CExpr (record { place = nowhere; what = k })) scope memory ≡ negates operand)
      (expression.rolls-Not operand) (not-open operand)

  two-open : (op : Op) (left right : CExpr) → value_c (kind (CExprKind-F.Two op left right)) scope memory
      ≡ two_values op (value_c left) (value_c right) scope memory
  two-open op left right = rw (fold-roll-CExpr, fold-roll-CExprKind) refl

  pub two-value : (op : Op) (left right : CExpr) → value_c (c_two op left right) scope memory
      ≡ two_values op (value_c left) (value_c right) scope memory
  two-value op left right =
      subst (λ (k : CExprKind). value_c (roll-CExpr (record { place = nowhere; what = k })) scope memory
      ≡ two_values op (value_c left) (value_c right) scope memory)
      (expression.rolls-Two op left right) (two-open op left right)

  -- ---- calls

  abbrev calls : Text → Counted (List ArgumentValue) → CallResult
  calls name passed = called_after scope memory name passed.count passed.answer

  pub call-does : (name : Text) (args : List CArg) → call_c (c_call name args) scope memory ≡ calls name (each_of (map passes args) scope memory)
  call-does name args = rw fold-roll-CCall refl

  called-open : (call : CCall) → value_c (kind (CExprKind-F.Call call)) scope memory ≡ result_of (call_c call scope memory)
  called-open call = rw (fold-roll-CExpr, fold-roll-CExprKind) refl

  pub called-value : (name : Text) (args : List CArg) → value_c (c_called name args) scope memory
      ≡ result_of (calls name (each_of (map passes args) scope memory))
  called-value name args =
      subst (λ (k : CExprKind). value_c (roll-CExpr (record { place = nowhere; what = k })) scope memory
      ≡ result_of (call_c (c_call name args) scope memory))
      (expression.rolls-Call (c_call name args)) (called-open (c_call name args)) ∙ ap result_of (call-does name args)

  value_arg-open : (e : CExpr) → passes (roll-CArg (CArg-F.Value e)) scope memory ≡ next (value_c e scope memory) (λ v. given (Some (by_value v)))
  value_arg-open e = rw fold-roll-CArg refl

  pub value-arg : (e : CExpr) → passes (argument.Value e) scope memory ≡ next (value_c e scope memory) (λ v. given (Some (by_value v)))
  value-arg e = subst (λ (a : CArg). passes a scope memory ≡ next (value_c e scope memory) (λ v. given (Some (by_value v))))
      (argument.rolls-Value e) (value_arg-open e)

  address_arg-open : (place : CPlace) → passes (roll-CArg (CArg-F.Address place)) scope memory
      ≡ next (location_c place scope memory) (λ p. given (Some (by_address p)))
  address_arg-open place = rw fold-roll-CArg refl

  pub address-arg : (place : CPlace) → passes (argument.Address place) scope memory
      ≡ next (location_c place scope memory) (λ p. given (Some (by_address p)))
  address-arg place = subst (λ (a : CArg). passes a scope memory ≡ next (location_c place scope memory) (λ p. given (Some (by_address p))))
      (argument.rolls-Address place) (address_arg-open place)

  -- ---- places

  pub step-way : (name : Text) → ways (c_step name) scope memory ≡ given (Some (member name ∷ []))
  step-way name = rw fold-roll-CStep refl

  pub element-way : (name : Text) (signed : Bool) (at : CExpr) (length : ℕ) → ways (c_element name (c_index signed at length)) scope memory
      ≡ next (next (value_c at scope memory) (λ i. given (element_projection (index_within (scalar_number i) (pos length)))))
      (λ parts. given (Some (member name ∷ parts)))
  element-way name signed at length = rw (fold-roll-CStep, fold-roll-CIndex) refl

  pub place-location : (through : Bool) (name : Text) (steps : List CStep) → location_c (c_place through name steps) scope memory
      ≡ next (each_of (map ways steps) scope memory) (λ ways. given (Some (further (named_location scope through name) (way_of ways))))
  place-location through name steps = rw fold-roll-CPlace refl
