-- Arguments and calls in environments that agree.
use Rattle.std.proofs.Common.{◌≡◌, ℕ, Bool, true, false, List, [], ◌∷◌, ◌++◌, map, length, refl, ap, ap₂, sym, ◌∙◌}
use Rattle.std.specs.Prelude.{Option, Some, None, ◌&&◌, is_some, nat_eq, option_and_then, option_map}
use Rattle.std.proofs.lemmas.List.{length-map}
use Rattle.bl_tree.specs.declared.place.Place.{Place}
use Rattle.bl_tree.specs.declared.rule.Failure.{Failure}
use Rattle.bl_tree.specs.declared.rule.Rule.TheVariants as rule
use Rattle.bl_tree.specs.declared.scalar.Scalar.{Scalar as ScalarType}
use Rattle.bl_tree.specs.declared.tree.Expr.{Expr}
use Rattle.bl_tree.specs.declared.tree.Role.{Role}
use Rattle.bl_tree.specs.declared.tree.Ty.{Ty}
use Rattle.bl_tree.specs.declared.tree.Unit.{Unit as UnitDef}
use Rattle.bl_tree.specs.declared.tree.UnitKind.{UnitKind}
use Rattle.bl_tree.specs.declared.tree.Var.{Var}
use Rattle.bl_tree.specs.Types.{scalar}
use Rattle.bl_tree_laws_places.specs.Placed.{placed_expr, placed_var}
use Rattle.bl_types.specs.declared.environment.Variable.{Variable}
use Rattle.bl_types.specs.declared.form.Form.TheVariants as form
use Rattle.bl_types.specs.Expressions.{Judged, all_failures, all_made, but_first, call_form, call_formed, first_type, fitted, in_context, miscounted, misnamed}
use Rattle.bl_types.specs.Expressions.{params_of, previous_fits, previous_formed, previous_typed}
use Rattle.bl_types.specs.Failures.{unless}
use Rattle.bl_types.specs.Settled.{Settled}
use Rattle.bl_types_laws_places.specs.Agree.{UnitHead, head_of_unit, placed_failures, placed_variable, unplaced}
use Rattle.bl_types_laws_places.specs.Judgements.{placed_form, placed_formed, placed_judged, placed_settled}
use Rattle.bl_types_laws_places.proofs.Environments.{by_head}
use Rattle.bl_types_laws_places.proofs.Forms.{context_placed, formed_of}
use Rattle.bl_types_laws_places.proofs.Trees.{both_placed, call_placed, made_first, previous_placed, unless_placed}

-- ---- what is asked of arguments

-- of the parameters their types alone are looked at
pub fitted_unplaced : (arguments : List Judged) (params : List Var) → fitted arguments params ≡ fitted arguments (map (placed_var unplaced) params)
fitted_unplaced [] params = refl
fitted_unplaced (argument ∷ rest) [] = ap (λ more. in_context None argument ∷ more) (fitted_unplaced rest [])
fitted_unplaced (argument ∷ rest) (var ∷ params) = ap (λ more. in_context (Some var.ty) argument ∷ more) (fitted_unplaced rest params)

abbrev head_inputs : Option UnitHead → List Var
head_inputs (Some head) = head.inputs
head_inputs None = []

inputs_by_head : (unit : Option UnitDef) → map (placed_var unplaced) (params_of unit) ≡ head_inputs (option_map head_of_unit unit)
inputs_by_head (Some unit) = refl
inputs_by_head None = refl

abbrev head_counted : Place → ℕ → ℕ → UnitHead → List Failure
head_counted at inputs outputs head = unless (nat_eq inputs head.input_count && nat_eq outputs head.output_count) rule.Arity at

abbrev head_misnamed : Place → ℕ → Option UnitHead → List Failure
head_misnamed at inputs (Some head) = head_counted at inputs 0 head ++ unless (is_some head.result) rule.Return at
head_misnamed at inputs None = []

misnamed_by_head : (at : Place) (inputs : ℕ) (unit : Option UnitDef) → misnamed at inputs unit ≡ head_misnamed at inputs (option_map head_of_unit unit)
misnamed_by_head at inputs (Some unit) = refl
misnamed_by_head at inputs None = refl

abbrev head_result : Option UnitHead → Option ScalarType
head_result head = option_and_then (λ head. head.result) head

result_by_head : (unit : Option UnitDef) → option_and_then (λ unit. unit.result) unit ≡ head_result (option_map head_of_unit unit)
result_by_head (Some unit) = refl
result_by_head None = refl

module _ (near far : Option UnitDef) (same : option_map head_of_unit far ≡ option_map head_of_unit near) where
  pub params_same : map (placed_var unplaced) (params_of far) ≡ map (placed_var unplaced) (params_of near)
  params_same = by_head (λ unit. map (placed_var unplaced) (params_of unit)) head_inputs inputs_by_head near far same

  pub fitted_same : (arguments : List Judged) → fitted arguments (params_of far) ≡ fitted arguments (params_of near)
  fitted_same arguments =
      fitted_unplaced arguments (params_of far) ∙ ap (fitted arguments) params_same ∙ sym (fitted_unplaced arguments (params_of near))

  misnamed_same : (at : Place) (inputs : ℕ) → misnamed at inputs far ≡ misnamed at inputs near
  misnamed_same at inputs = by_head (misnamed at inputs) (head_misnamed at inputs) (misnamed_by_head at inputs) near far same

  pub result_same : option_and_then (λ unit. unit.result) far ≡ option_and_then (λ unit. unit.result) near
  result_same = by_head (option_and_then (λ unit. unit.result)) head_result result_by_head near far same

module _ (f : Place → Place) where
  -- ---- arguments

  pub fitted_placed : (arguments : List Judged) (params : List Var) →
      fitted (map (placed_judged f) arguments) params ≡ map (placed_settled f) (fitted arguments params)
  fitted_placed [] params = refl
  fitted_placed (argument ∷ rest) params =
      ap₂ (λ first more. first ∷ more) (context_placed f (first_type params) argument) (fitted_placed rest (but_first params))

  pub made_placed : (arguments : List Settled) → all_made (map (placed_settled f) arguments) ≡ map (placed_expr f) (all_made arguments)
  made_placed [] = refl
  made_placed (argument ∷ rest) =
      made_first (placed_expr f) argument.made (all_made rest) (all_made (map (placed_settled f) rest)) (made_placed rest)

  pub failures_placed : (arguments : List Settled) → all_failures (map (placed_settled f) arguments) ≡ placed_failures f (all_failures arguments)
  failures_placed [] = refl
  failures_placed (argument ∷ rest) =
      ap (λ more. placed_failures f argument.failures ++ more) (failures_placed rest) ∙ both_placed f argument.failures (all_failures rest)

  -- ---- calls

  call_form_placed : (at : Place) (callee : ℕ) (inputs : List Expr) (complete : Bool) (result : Option ScalarType) →
      call_form (f at) callee (map (placed_expr f) inputs) complete result ≡ placed_form f (call_form at callee inputs complete result)
  call_form_placed at callee inputs true (Some s) = ap (form.Of (scalar s)) (sym (call_placed f at callee inputs))
  call_form_placed at callee inputs true None = refl
  call_form_placed at callee inputs false result = refl

  misnamed_placed : (at : Place) (inputs : ℕ) (unit : Option UnitDef) → misnamed (f at) inputs unit ≡ placed_failures f (misnamed at inputs unit)
  misnamed_placed at inputs (Some unit) =
      ap₂ (λ xs ys. xs ++ ys) (unless_placed f (nat_eq inputs unit.inputs && nat_eq 0 unit.outputs) rule.Arity at)
      (unless_placed f (is_some unit.result) rule.Return at)
      ∙ both_placed f (miscounted at inputs 0 unit) (unless (is_some unit.result) rule.Return at)
  misnamed_placed at inputs None = refl

  pub call_agrees : (at name : Place) (callee : ℕ) (arguments arguments' : List Settled) (near far : Option UnitDef) →
      option_map head_of_unit far ≡ option_map head_of_unit near → arguments' ≡ map (placed_settled f) arguments →
      call_formed (f at) (f name) callee arguments' far ≡ placed_formed f (call_formed at name callee arguments near)
  call_agrees at name callee arguments arguments' near far same is =
      ap (λ xs. call_formed (f at) (f name) callee xs far) is
      ∙ ap₂ (λ form failures. formed_of form failures) form_is
      (ap₂ (λ xs ys. xs ++ ys) (failures_placed arguments) misnamed_is ∙ both_placed f (all_failures arguments) (misnamed name (length arguments) near))
    where
      count_is : length (map (placed_settled f) arguments) ≡ length arguments
      count_is = length-map arguments (placed_settled f)

      made_count : length (all_made (map (placed_settled f) arguments)) ≡ length (all_made arguments)
      made_count = ap length (made_placed arguments) ∙ length-map (all_made arguments) (placed_expr f)

      form_is : call_form (f at) callee (all_made (map (placed_settled f) arguments))
          (nat_eq (length (all_made (map (placed_settled f) arguments))) (length (map (placed_settled f) arguments)))
          (option_and_then (λ unit. unit.result) far)
          ≡ placed_form f
          (call_form at callee (all_made arguments) (nat_eq (length (all_made arguments)) (length arguments))
          (option_and_then (λ unit. unit.result) near))
      form_is =
          ap₂ (λ made complete. call_form (f at) callee made complete (option_and_then (λ unit. unit.result) far)) (made_placed arguments)
          (ap₂ nat_eq made_count count_is)
          ∙ ap (call_form (f at) callee (map (placed_expr f) (all_made arguments)) (nat_eq (length (all_made arguments)) (length arguments)))
          (result_same near far same)
          ∙ call_form_placed at callee (all_made arguments) (nat_eq (length (all_made arguments)) (length arguments))
          (option_and_then (λ unit. unit.result) near)

      misnamed_is : misnamed (f name) (length (map (placed_settled f) arguments)) far ≡ placed_failures f (misnamed name (length arguments) near)
      misnamed_is =
          ap (λ n. misnamed (f name) n far) count_is ∙ misnamed_same near far same (f name) (length arguments)
          ∙ misnamed_placed name (length arguments) near

  -- ---- earlier values

  previous_typed_placed : (kind : UnitKind) (at : Place) (k : ℕ) (role : Role) (ty : Option Ty) →
      previous_typed kind (f at) k role ty ≡ placed_formed f (previous_typed kind at k role ty)
  previous_typed_placed kind at k role (Some ty) =
      ap₂ (λ e failures. formed_of (form.Of ty e) failures) (sym (previous_placed f at k))
      (unless_placed f (previous_fits kind role ty) rule.Prev at)
  previous_typed_placed kind at k role None = refl

  pub previous_formed_placed : (kind : UnitKind) (at : Place) (k : ℕ) (var : Option Variable) →
      previous_formed kind (f at) k (option_map (placed_variable f) var) ≡ placed_formed f (previous_formed kind at k var)
  previous_formed_placed kind at k (Some var) = previous_typed_placed kind at k var.role var.ty
  previous_formed_placed kind at k None = refl
