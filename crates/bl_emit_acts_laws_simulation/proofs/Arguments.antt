-- Arguments of functions, and what a call returns.
use Rattle.std.proofs.Common.{◌≡◌, ℕ, ◌+◌, ℤ, List, ◌∷◌, map, Option, Some, None, refl}
use Rattle.std.proofs.Common.{sym, ap, ◌∙◌, subst, IfSome}
use Rattle.std.proofs.lemmas.Option.{same_Some}
use Rattle.std.specs.Prelude.{option_and_then, option_map}
use Rattle.bl_tree.specs.declared.text.Text.{Text}
use Rattle.bl_tree.specs.declared.c.CArg.{CArg}
use Rattle.bl_tree.specs.declared.c.CArg.TheVariants.{Value, Address}
use Rattle.bl_tree.specs.declared.c.CExpr.{CExpr}
use Rattle.bl_tree.specs.declared.c.CPlace.{CPlace}
use Rattle.bl_tree.specs.declared.scalar.Scalar.{Scalar as ScalarType}
use Rattle.bl_tree.specs.declared.tree.StructDef.{StructDef}
use Rattle.bl_tree.specs.declared.tree.Ty.{Ty}
use Rattle.bl_tree.specs.declared.tree.Var.{Var}
use Rattle.bl_tree.specs.declared.value.Value.{Value as Datum_value}
use Rattle.bl_tree.specs.declared.value.Value.TheVariants.{outs-Number}
use Rattle.bl_tree.specs.Types.{scalar_in}
use Rattle.bl_eval.specs.declared.datum.Datum.{Datum}
use Rattle.bl_eval.specs.declared.datum.Datum.TheVariants.{Scalar as OfScalar, Whole as OfWhole}
use Rattle.bl_eval.specs.Meaning.{plain}
use Rattle.bl_eval.specs.Values.{number_at as number_level}
use Rattle.bl_eval.proofs.OperatorFits.{DatumFits}
use Rattle.bl_ctext.specs.declared.builtin.Builtin.{Builtin}
use Rattle.bl_ctext_semantics.specs.Builtin.{builtin_of}
use Rattle.bl_ctext_semantics.specs.Memory.{CValue, Location, Memory}
use Rattle.bl_ctext_semantics.specs.Memory as memory
use Rattle.bl_ctext_semantics.specs.Meaning.{ArgumentValue, Counted, Scope, applied, by_address, by_value, called_after, called_as, each_of, location_c, result_of, value_c}
use Rattle.bl_emit_acts.specs.declared.made.Made.{Made}
use Rattle.bl_emit_acts.specs.declared.made.Made.TheVariants.{Number, Whole}
use Rattle.bl_emit_acts.specs.Expressions.{arg_of}
use Rattle.bl_emit_acts.specs.Trees.{c_called}
use Rattle.bl_emit_acts.specs.Types.{unit_name}
use Rattle.bl_emit_acts_laws_simulation.specs.Simulation.{ArgumentEncoded, ArgumentsEncoded, ExpressionSimulates, PlaceValueSimulates, number_given}
use Rattle.bl_emit_acts_laws_simulation.proofs.Evaluated.{address-arg, called-value, passes, value-arg}
use Rattle.bl_emit_acts_laws_simulation.proofs.Numbers.{gives, num, num-scalar}
use Rattle.bl_emit_acts_laws_simulation.proofs.Places.{listed-answer, mapped-answer}

module _ (structs : List StructDef) (scope : Scope) (here : Memory) where
  -- ---- one argument

  -- an argument beside what an expression gives
  abbrev pub ArgShows : Ty → Option ArgumentValue → Option Datum → Type 0
  ArgShows ty None None = Unit {0}
  ArgShows ty (Some passed) (Some datum) = ArgumentEncoded structs scope.depth here ty (plain datum) passed
  ArgShows ty _ _ = ⊥

  number_arg : (ty : Ty) (s : ScalarType) (held : CValue) (datum : Datum) → scalar_in ty ≡ Some s → DatumFits structs ty datum →
      memory.scalar_number held ≡ number_given datum → ArgumentEncoded structs scope.depth here ty (plain datum) (by_value held)
  number_arg ty s held (OfScalar t n) is fit same = (s, is, ap number_level (outs-Number n) ∙ ap Some (sym same))
  number_arg ty s held (OfWhole value) is fit same = absurd (let none = fit.0 in cc)

  by_number : (ty : Ty) (s : ScalarType) (o : Option CValue) (datum : Option Datum) → scalar_in ty ≡ Some s → IfSome datum (DatumFits structs ty) →
      num o ≡ option_map number_given datum → ArgShows ty (option_map by_value o) datum
  by_number ty s None None is fit same = tt
  by_number ty s None (Some datum) is fit same = absurd (cc)
  by_number ty s (Some held) None is fit same = absurd (cc)
  by_number ty s (Some held) (Some datum) is fit same = number_arg ty s held datum is fit (same_Some (memory.scalar_number held) (number_given datum) same)

  by_place : (ty : Ty) (o : Option Location) (datum : Option Datum) → scalar_in ty ≡ None → PlaceValueSimulates structs ty scope.depth here o datum →
      ArgShows ty (option_map by_address o) datum
  by_place ty None None is shown = tt
  by_place ty None (Some (OfScalar t n)) is shown = absurd shown
  by_place ty None (Some (OfWhole value)) is shown = absurd shown
  by_place ty (Some place) None is shown = absurd shown
  by_place ty (Some place) (Some (OfScalar t n)) is shown = absurd shown
  by_place ty (Some place) (Some (OfWhole value)) is shown = (is, shown.0, shown.1)

  pub passes_value : (code : CExpr) → (passes (Value code) scope here).answer ≡ option_map by_value (value_c code scope here).answer
  passes_value code = ap (λ (c : Counted ArgumentValue). c.answer) (value-arg scope here code) ∙ mapped-answer by_value (value_c code scope here)

  pub passes_address : (place : CPlace) → (passes (Address place) scope here).answer ≡ option_map by_address (location_c place scope here).answer
  passes_address place = ap (λ (c : Counted ArgumentValue). c.answer) (address-arg scope here place) ∙ mapped-answer by_address (location_c place scope here)

  pub arg_shows : (ty : Ty) (made : Made) (datum : Option Datum) → ExpressionSimulates structs ty scope here made datum → IfSome datum (DatumFits structs ty) →
      ArgShows ty (passes (arg_of made) scope here).answer datum
  arg_shows ty (Number s code) datum shown fit =
      subst (λ o. ArgShows ty o datum) (sym (passes_value code)) (by_number ty s (value_c code scope here).answer datum shown.0 fit shown.1)
  arg_shows ty (Whole place) datum shown fit =
      subst (λ o. ArgShows ty o datum) (sym (passes_address place)) (by_place ty (location_c place scope here).answer datum shown.0 shown.1)

  -- ---- all arguments

  -- the arguments beside the values of the inputs
  abbrev pub ArgsShow : List Var → Option (List ArgumentValue) → Option (List Datum_value) → Type 0
  ArgsShow vars None None = Unit {0}
  ArgsShow vars (Some passed) (Some values) = ArgumentsEncoded structs scope.depth here vars values passed
  ArgsShow vars _ _ = ⊥

  rest_shows : (var : Var) (vars : List Var) (passed : ArgumentValue) (datum : Datum) (others : Option (List ArgumentValue)) (values : Option (List Datum_value)) →
      ArgumentEncoded structs scope.depth here var.ty (plain datum) passed → ArgsShow vars others values →
      ArgsShow (var ∷ vars) (option_map (λ others. passed ∷ others) others) (option_map (λ values. plain datum ∷ values) values)
  rest_shows var vars passed datum None None one more = tt
  rest_shows var vars passed datum None (Some values) one more = absurd more
  rest_shows var vars passed datum (Some others) None one more = absurd more
  rest_shows var vars passed datum (Some others) (Some values) one more = (one, more)

  first_shows : (var : Var) (vars : List Var) (passed : Option ArgumentValue) (datum : Option Datum) (others : Option (List ArgumentValue))
      (values : Option (List Datum_value)) → ArgShows var.ty passed datum → ArgsShow vars others values →
      ArgsShow (var ∷ vars) (option_and_then (λ a. option_map (λ others. a ∷ others) others) passed)
      (option_and_then (λ datum. option_map (λ values. plain datum ∷ values) values) datum)
  first_shows var vars None None others values one more = tt
  first_shows var vars None (Some datum) others values one more = absurd one
  first_shows var vars (Some passed) None others values one more = absurd one
  first_shows var vars (Some passed) (Some datum) others values one more = rest_shows var vars passed datum others values one more

  abbrev pub pass_all : List CArg → Counted (List ArgumentValue)
  pass_all args = each_of (map passes args) scope here

  pub args_show : (var : Var) (vars : List Var) (arg : CArg) (args : List CArg) (datum : Option Datum) (values : Option (List Datum_value)) →
      ArgShows var.ty (passes arg scope here).answer datum → ArgsShow vars (pass_all args).answer values →
      ArgsShow (var ∷ vars) (pass_all (arg ∷ args)).answer (option_and_then (λ datum. option_map (λ values. plain datum ∷ values) values) datum)
  args_show var vars arg args datum values one more =
      subst (λ o. ArgsShow (var ∷ vars) o (option_and_then (λ datum. option_map (λ values. plain datum ∷ values) values) datum))
      (sym (listed-answer (passes arg scope here) (pass_all args)))
      (first_shows var vars (passes arg scope here).answer datum (pass_all args).answer values one more)

  -- ---- calls

  -- no function of the prelude has the name of a unit
  pub own_name : (name : Text) → builtin_of (unit_name name) ≡ None
  unfolding builtin_of
  own_name name = refl

  abbrev returns : Text → List ArgumentValue → Option ℤ
  returns name passed = (applied (scope.known (unit_name name)) (scope.depth + 1) passed here).result

  returned : (name : Text) (passed : List ArgumentValue) →
      num (option_map memory.scalar (called_as (builtin_of (unit_name name)) (scope.known (unit_name name)) (scope.depth + 1) passed here).result)
      ≡ returns name passed
  returned name passed =
      ap (λ (o : Option Builtin). num (option_map memory.scalar (called_as o (scope.known (unit_name name)) (scope.depth + 1) passed here).result))
      (own_name name)
      ∙ num-scalar (returns name passed)

  call_by : (name : Text) (n : ℕ) (o : Option (List ArgumentValue)) →
      num (result_of (called_after scope here (unit_name name) n o)).answer ≡ option_and_then (returns name) o
  call_by name n None = refl
  call_by name n (Some passed) = returned name passed

  -- what a call of a unit's function gives
  pub call_gives : (name : Text) (args : List CArg) →
      gives scope here (c_called (unit_name name) args) ≡ option_and_then (returns name) (pass_all args).answer
  call_gives name args =
      ap (λ (c : Counted CValue). num c.answer) (called-value scope here (unit_name name) args)
      ∙ call_by name (pass_all args).count (pass_all args).answer
