-- Paths and arguments of calls in environments that agree.
use Rattle.std.proofs.Common.{◌≡◌, ℕ, Bool, List, [], ◌∷◌, ◌++◌, map, length, refl, ap, ap₂, sym, ◌∙◌}
use Rattle.std.specs.Prelude.{Option, Some, None, ◌&&◌, if◌then◌else◌, is_none, is_some, nat_eq, option_and_then, option_map, slice_get}
use Rattle.std.proofs.lemmas.List.{length-map}
use Rattle.bl_tree.specs.declared.place.Place.{Place}
use Rattle.bl_tree.specs.declared.rule.Failure.{Failure}
use Rattle.bl_tree.specs.declared.rule.Further.TheVariants.{One}
use Rattle.bl_tree.specs.declared.rule.Rule.TheVariants as rule
use Rattle.bl_tree.specs.declared.tree.Path.{Path, out-Path}
use Rattle.bl_tree.specs.declared.tree.Ty.{Ty}
use Rattle.bl_tree.specs.declared.tree.Unit.{Unit as UnitDef}
use Rattle.bl_tree.specs.declared.tree.Var.{Var}
use Rattle.bl_tree.specs.Types.{same_type, scalar}
use Rattle.bl_tree.specs.Typing.{may_change}
use Rattle.bl_tree_laws_places.specs.Placed.{placed_expr, placed_path, placed_var}
use Rattle.bl_tree_laws_places.proofs.Lists.{map-twice}
use Rattle.bl_joined.specs.Trees.{placed_name}
use Rattle.bl_names_tree.specs.declared.expr.NamedExpr.{NamedExpr}
use Rattle.bl_names_tree.specs.declared.expr.Root.{Root}
use Rattle.bl_names_tree.specs.declared.expr.Root.TheVariants as root
use Rattle.bl_names_tree.specs.declared.stmt.NamedPath.{NamedPath}
use Rattle.bl_names_laws_places.specs.Renamed.{Renaming, renamed_expr, renamed_path, renamed_root}
use Rattle.bl_types.specs.declared.environment.Environment.{Environment}
use Rattle.bl_types.specs.declared.environment.Variable.{Variable}
use Rattle.bl_types.specs.declared.form.Found.{Found}
use Rattle.bl_types.specs.declared.form.Found.TheVariants as found
use Rattle.bl_types.specs.Expressions.{Targeted, all_failures, all_made, but_first, first_type, fitted, judged, params_of, stepped, to_field, type_of_variable}
use Rattle.bl_types.specs.Failures.{fails_at, unless}
use Rattle.bl_types.specs.Settled.{Settled}
use Rattle.bl_types.specs.Statements.{Lent, RunTarget, all_lent, arguments, arguments_from, counted, has_result, immutable, immutable_variable, lent, lent_as}
use Rattle.bl_types.specs.Statements.{no_result, outputs_wanted, paths_failures, paths_made, result_type, run_target, targeted_path}
use Rattle.bl_types_laws_places.specs.Agree.{EnvironmentsAgree, UnitHead, head_of_unit, placed_failures, placed_variable, unplaced}
use Rattle.bl_types_laws_places.specs.Judgements.{placed_arguments, placed_found, placed_lent, placed_run_target, placed_settled, placed_targeted}
use Rattle.bl_types_laws_places.proofs.Calls.{failures_placed, made_placed}
use Rattle.bl_types_laws_places.proofs.Environments.{by_head, callee_same, type_same, variable_same}
use Rattle.bl_types_laws_places.proofs.Exprs.{inputs_agree}
use Rattle.bl_types_laws_places.proofs.Steps.{led_found, stepped_placed, to_field_agrees}
use Rattle.bl_types_laws_places.proofs.Trees.{both_placed, chosen, made_first, type_placed, unless_placed}

-- a path that is lent, by what is made and what fails
abbrev lent_of : Option Path → List Failure → Lent
lent_of made failures = record { made = made; failures = failures }

-- a path that is lent, from what it leads to and what a change of its root fails
abbrev lent_from : Option Ty → Place → Targeted → List Failure → Lent
lent_from wanted at leads immutable =
    lent_of (lent_as wanted at leads.found).made (leads.failures ++ ((lent_as wanted at leads.found).failures ++ immutable))

-- the target of a run, from the path and what a missing result fails
abbrev target_of : Lent → List Failure → RunTarget
target_of target missing = record { made = option_map (λ path. Some path) target.made; failures = target.failures ++ missing }

-- ---- what is looked at of the unit that is called

abbrev head_outputs : Option UnitHead → List Var
head_outputs (Some head) = head.outputs
head_outputs None = []

outputs_by_head : (unit : Option UnitDef) → map (placed_var unplaced) (outputs_wanted unit) ≡ head_outputs (option_map head_of_unit unit)
outputs_by_head (Some unit) = refl
outputs_by_head None = refl

abbrev head_counted : Place → ℕ → ℕ → Option UnitHead → List Failure
head_counted at inputs outputs (Some head) = unless (nat_eq inputs head.input_count && nat_eq outputs head.output_count) rule.Arity at
head_counted at inputs outputs None = []

counted_by_head : (at : Place) (inputs outputs : ℕ) (unit : Option UnitDef) →
    counted at inputs outputs unit ≡ head_counted at inputs outputs (option_map head_of_unit unit)
counted_by_head at inputs outputs (Some unit) = refl
counted_by_head at inputs outputs None = refl

abbrev head_lacks : Place → Option UnitHead → List Failure
head_lacks at (Some head) = unless (is_some head.result) rule.Return at
head_lacks at None = []

no_result_by_head : (at : Place) (unit : Option UnitDef) → no_result at unit ≡ head_lacks at (option_map head_of_unit unit)
no_result_by_head at (Some unit) = refl
no_result_by_head at None = refl

abbrev head_gives : Place → Option UnitHead → List Failure
head_gives at (Some head) = unless (is_none head.result) rule.Return at
head_gives at None = []

has_result_by_head : (at : Place) (unit : Option UnitDef) → has_result at unit ≡ head_gives at (option_map head_of_unit unit)
has_result_by_head at (Some unit) = refl
has_result_by_head at None = refl

abbrev head_type : Option UnitHead → Option Ty
head_type head = option_and_then (λ head. option_map scalar head.result) head

type_by_head : (unit : Option UnitDef) → result_type unit ≡ head_type (option_map head_of_unit unit)
type_by_head (Some unit) = refl
type_by_head None = refl

module _ (f : Place → Place) where
  counted_placed : (at : Place) (inputs outputs : ℕ) (unit : Option UnitDef) →
      counted (f at) inputs outputs unit ≡ placed_failures f (counted at inputs outputs unit)
  counted_placed at inputs outputs (Some unit) = unless_placed f (nat_eq inputs unit.inputs && nat_eq outputs unit.outputs) rule.Arity at
  counted_placed at inputs outputs None = refl

  no_result_placed : (at : Place) (unit : Option UnitDef) → no_result (f at) unit ≡ placed_failures f (no_result at unit)
  no_result_placed at (Some unit) = unless_placed f (is_some unit.result) rule.Return at
  no_result_placed at None = refl

  has_result_placed : (at : Place) (unit : Option UnitDef) → has_result (f at) unit ≡ placed_failures f (has_result at unit)
  has_result_placed at (Some unit) = unless_placed f (is_none unit.result) rule.Return at
  has_result_placed at None = refl

  -- ---- what may be changed

  immutable_variable_placed : (at : Place) (var : Option Variable) →
      immutable_variable (f at) (option_map (placed_variable f) var) ≡ placed_failures f (immutable_variable at var)
  immutable_variable_placed at (Some var) =
      chosen (placed_failures f) (may_change var.role) [] (record { rule = rule.Immutable; at = at; further = One var.place } ∷ [])
  immutable_variable_placed at None = refl

  -- ---- paths that are lent

  same_lent : (test : Bool) (at : Place) (path : Path) →
      if test then lent_of (Some (placed_path f path)) [] else lent_of None (fails_at rule.Type (f at))
      ≡ placed_lent f (if test then lent_of (Some path) [] else lent_of None (fails_at rule.Type at))
  same_lent test at path = chosen (placed_lent f) test (lent_of (Some path) []) (lent_of None (fails_at rule.Type at))

  lent_as_placed : (wanted : Option Ty) (at : Place) (leads : Found) →
      lent_as wanted (f at) (placed_found f leads) ≡ placed_lent f (lent_as wanted at leads)
  lent_as_placed (Some wanted) at (found.Place path) =
      ap (λ ty. if same_type wanted ty then lent_of (Some (placed_path f path)) [] else lent_of None (fails_at rule.Type (f at))) (type_placed f path)
      ∙ same_lent (same_type wanted (out-Path path).ty) at path
  lent_as_placed None at (found.Place path) = refl
  lent_as_placed (Some wanted) at found.Nothing = refl
  lent_as_placed None at found.Nothing = refl
  lent_as_placed (Some wanted) at (found.Constant s n) = refl
  lent_as_placed None at (found.Constant s n) = refl

  paths_made_placed : (all : List Lent) → paths_made (map (placed_lent f) all) ≡ map (placed_path f) (paths_made all)
  paths_made_placed [] = refl
  paths_made_placed (one ∷ rest) =
      made_first (placed_path f) one.made (paths_made rest) (paths_made (map (placed_lent f) rest)) (paths_made_placed rest)

  paths_failures_placed : (all : List Lent) → paths_failures (map (placed_lent f) all) ≡ placed_failures f (paths_failures all)
  paths_failures_placed [] = refl
  paths_failures_placed (one ∷ rest) =
      ap (λ more. placed_failures f one.failures ++ more) (paths_failures_placed rest) ∙ both_placed f one.failures (paths_failures rest)

  -- ---- arguments

  module _ (near far : Option UnitDef) (same : option_map head_of_unit far ≡ option_map head_of_unit near) where
    counted_same : (at : Place) (inputs outputs : ℕ) → counted (f at) inputs outputs far ≡ placed_failures f (counted at inputs outputs near)
    counted_same at inputs outputs =
        by_head (counted (f at) inputs outputs) (head_counted (f at) inputs outputs) (counted_by_head (f at) inputs outputs) near far same
        ∙ counted_placed at inputs outputs near

    no_result_same : (at : Place) → no_result (f at) far ≡ placed_failures f (no_result at near)
    no_result_same at = by_head (no_result (f at)) (head_lacks (f at)) (no_result_by_head (f at)) near far same ∙ no_result_placed at near

    pub has_result_same : (at : Place) → has_result (f at) far ≡ placed_failures f (has_result at near)
    has_result_same at = by_head (has_result (f at)) (head_gives (f at)) (has_result_by_head (f at)) near far same ∙ has_result_placed at near

    result_type_same : result_type far ≡ result_type near
    result_type_same = by_head result_type head_type type_by_head near far same

    outputs_same : map (placed_var unplaced) (outputs_wanted far) ≡ map (placed_var unplaced) (outputs_wanted near)
    outputs_same = by_head (λ unit. map (placed_var unplaced) (outputs_wanted unit)) head_outputs outputs_by_head near far same

    arguments_placed : (at : Place) (inputs : List Settled) (outputs : List Lent) →
        arguments_from (f at) (map (placed_settled f) inputs) (map (placed_lent f) outputs) far ≡ placed_arguments f (arguments_from at inputs outputs near)
    arguments_placed at inputs outputs = λ i. record {
      inputs = made_placed f inputs i;
      outputs = paths_made_placed outputs i;
      complete = (inputs_complete i) && (outputs_complete i);
      failures = failures_are i;
    }
      where
        inputs_complete : nat_eq (length (all_made (map (placed_settled f) inputs))) (length (map (placed_settled f) inputs))
            ≡ nat_eq (length (all_made inputs)) (length inputs)
        inputs_complete =
            ap₂ nat_eq (ap length (made_placed f inputs) ∙ length-map (all_made inputs) (placed_expr f)) (length-map inputs (placed_settled f))

        outputs_complete : nat_eq (length (paths_made (map (placed_lent f) outputs))) (length (map (placed_lent f) outputs))
            ≡ nat_eq (length (paths_made outputs)) (length outputs)
        outputs_complete =
            ap₂ nat_eq (ap length (paths_made_placed outputs) ∙ length-map (paths_made outputs) (placed_path f)) (length-map outputs (placed_lent f))

        counted_is : counted (f at) (length (map (placed_settled f) inputs)) (length (map (placed_lent f) outputs)) far
            ≡ placed_failures f (counted at (length inputs) (length outputs) near)
        counted_is =
            ap₂ (λ n m. counted (f at) n m far) (length-map inputs (placed_settled f)) (length-map outputs (placed_lent f))
            ∙ counted_same at (length inputs) (length outputs)

        outputs_fail : paths_failures (map (placed_lent f) outputs)
            ++ counted (f at) (length (map (placed_settled f) inputs)) (length (map (placed_lent f) outputs)) far
            ≡ placed_failures f (paths_failures outputs ++ counted at (length inputs) (length outputs) near)
        outputs_fail =
            ap₂ (λ xs ys. xs ++ ys) (paths_failures_placed outputs) counted_is
            ∙ both_placed f (paths_failures outputs) (counted at (length inputs) (length outputs) near)

        failures_are : (arguments_from (f at) (map (placed_settled f) inputs) (map (placed_lent f) outputs) far).failures
            ≡ placed_failures f (arguments_from at inputs outputs near).failures
        failures_are =
            ap₂ (λ xs ys. xs ++ ys) (failures_placed f inputs) outputs_fail
            ∙ both_placed f (all_failures inputs) (paths_failures outputs ++ counted at (length inputs) (length outputs) near)

  -- ---- the target of a run

  some_placed : (path : Option Path) →
      option_map (λ (path : Path). Some path) (option_map (placed_path f) path)
      ≡ option_map (option_map (placed_path f)) (option_map (λ (path : Path). Some path) path)
  some_placed (Some path) = refl
  some_placed None = refl

module _ (by : Renaming) (near far : Environment) (agree : EnvironmentsAgree by near far) where
  pub path_agrees : (path : NamedPath) → targeted_path far (renamed_path by path) ≡ placed_targeted by.place (targeted_path near path)
  path_agrees path =
      led_found by.place path.place path.root
      (stepped (map (to_field near.structs) path.fields) (type_of_variable (slice_get near.vars path.root)))
      (stepped (map (to_field far.structs) (map (placed_name by.place) path.fields)) (type_of_variable (slice_get far.vars path.root)))
      (ap₂ stepped (map-twice (to_field far.structs) (placed_name by.place) path.fields) (type_same by near far agree path.root)
      ∙ stepped_placed by.place (to_field near.structs) (λ name. to_field far.structs (placed_name by.place name)) path.fields
      (λ k d less. to_field_agrees by near far agree _) (type_of_variable (slice_get near.vars path.root)))

  immutable_at : (at : Place) (k : ℕ) →
      immutable_variable (by.place at) (slice_get far.vars k) ≡ placed_failures by.place (immutable_variable at (slice_get near.vars k))
  immutable_at at k =
      ap (immutable_variable (by.place at)) (variable_same by near far agree k) ∙ immutable_variable_placed by.place at (slice_get near.vars k)

  pub immutable_agrees : (at : Place) (root : Root) →
      immutable far (by.place at) (renamed_root by root) ≡ placed_failures by.place (immutable near at root)
  immutable_agrees at (root.Variable k) = immutable_at at k
  immutable_agrees at (root.Constant k) = refl

  pub lent_agrees : (wanted : Option Ty) (path : NamedPath) → lent far wanted (renamed_path by path) ≡ placed_lent by.place (lent near wanted path)
  lent_agrees wanted path =
      ap₂ (lent_from wanted (by.place path.place)) (path_agrees path) (immutable_at path.place path.root)
      ∙ ap
      (λ (fitted : Lent).
      lent_of fitted.made
      (placed_failures by.place leads.failures
      ++ (fitted.failures ++ placed_failures by.place (immutable_variable path.place (slice_get near.vars path.root)))))
      (lent_as_placed by.place wanted path.place leads.found)
      ∙ ap (lent_of (option_map (placed_path by.place) fits.made))
      (ap (λ xs. placed_failures by.place leads.failures ++ xs)
      (both_placed by.place fits.failures (immutable_variable path.place (slice_get near.vars path.root)))
      ∙ both_placed by.place leads.failures (fits.failures ++ immutable_variable path.place (slice_get near.vars path.root)))
    where
      leads : Targeted
      leads = targeted_path near path

      fits : Lent
      fits = lent_as wanted path.place leads.found

  lents_agree : (paths : List NamedPath) (params : List Var) →
      all_lent far (map (renamed_path by) paths) params ≡ map (placed_lent by.place) (all_lent near paths params)
  lents_agree [] params = refl
  lents_agree (path ∷ rest) params =
      ap₂ (λ first more. first ∷ more) (lent_agrees (first_type params) path) (lents_agree rest (but_first params))

  lents_unplaced : (paths : List NamedPath) (params : List Var) → all_lent far paths params ≡ all_lent far paths (map (placed_var unplaced) params)
  lents_unplaced [] params = refl
  lents_unplaced (path ∷ rest) [] = ap (λ more. lent far None path ∷ more) (lents_unplaced rest [])
  lents_unplaced (path ∷ rest) (var ∷ params) = ap (λ more. lent far (Some var.ty) path ∷ more) (lents_unplaced rest params)

  -- the outputs of the unit at a position
  outputs_agree : (callee : ℕ) (paths : List NamedPath) →
      all_lent far (map (renamed_path by) paths) (outputs_wanted (slice_get far.units callee))
      ≡ map (placed_lent by.place) (all_lent near paths (outputs_wanted (slice_get near.units callee)))
  outputs_agree callee paths =
      lents_unplaced (map (renamed_path by) paths) (outputs_wanted (slice_get far.units callee))
      ∙ ap (all_lent far (map (renamed_path by) paths))
      (outputs_same by.place (slice_get near.units callee) (slice_get far.units callee) (callee_same near.units far.units agree.units callee))
      ∙ sym (lents_unplaced (map (renamed_path by) paths) (outputs_wanted (slice_get near.units callee)))
      ∙ lents_agree paths (outputs_wanted (slice_get near.units callee))

  pub arguments_agree : (name : Place) (callee : ℕ) (inputs : List NamedExpr) (outputs : List NamedPath) →
      arguments far (by.place name) callee (map (renamed_expr by) inputs) (map (renamed_path by) outputs)
      ≡ placed_arguments by.place (arguments near name callee inputs outputs)
  arguments_agree name callee inputs outputs =
      ap₂ (λ xs ys. arguments_from (by.place name) xs ys (slice_get far.units callee)) (inputs_agree by near far agree callee inputs)
      (outputs_agree callee outputs)
      ∙ arguments_placed by.place (slice_get near.units callee) (slice_get far.units callee)
      (callee_same near.units far.units agree.units callee) name
      (fitted (map (judged near) inputs) (params_of (slice_get near.units callee)))
      (all_lent near outputs (outputs_wanted (slice_get near.units callee)))

  pub run_target_agrees : (callee : ℕ) (target : Option NamedPath) →
      run_target far (slice_get far.units callee) (option_map (renamed_path by) target)
      ≡ placed_run_target by.place (run_target near (slice_get near.units callee) target)
  run_target_agrees callee None = refl
  run_target_agrees callee (Some path) =
      ap (λ ty. target_of (lent far ty (renamed_path by path)) (no_result (by.place path.place) (slice_get far.units callee)))
      (result_type_same by.place (slice_get near.units callee) (slice_get far.units callee) (callee_same near.units far.units agree.units callee))
      ∙ ap₂ target_of (lent_agrees (result_type (slice_get near.units callee)) path)
      (no_result_same by.place (slice_get near.units callee) (slice_get far.units callee) (callee_same near.units far.units agree.units callee)
      path.place)
      ∙ ap₂ (λ made failures. record { made = made; failures = failures })
      (some_placed by.place (lent near (result_type (slice_get near.units callee)) path).made)
      (both_placed by.place (lent near (result_type (slice_get near.units callee)) path).failures
      (no_result path.place (slice_get near.units callee)))

  pub has_result_agrees : (name : Place) (callee : ℕ) →
      has_result (by.place name) (slice_get far.units callee) ≡ placed_failures by.place (has_result name (slice_get near.units callee))
  has_result_agrees name callee =
      has_result_same by.place (slice_get near.units callee) (slice_get far.units callee) (callee_same near.units far.units agree.units callee) name
