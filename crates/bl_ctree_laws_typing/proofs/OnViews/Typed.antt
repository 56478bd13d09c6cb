-- Homes have the types of what they are homes of, so what is seen in a typed store is typed.
use Rattle.std.proofs.Common.{◌≡◌, ℕ, zero, suc, ◌+◌, ◌-◌, ◌<◌, ◌≤◌, Bool, true, false, List, [], ◌∷◌, length}
use Rattle.std.proofs.Common.{map, drop, Option, Some, None, refl, sym, ap, ◌∙◌, subst, arith, leb-true, ltb-true}
use Rattle.std.specs.Prelude.{nat_le, nat_lt, option_and_then, option_map, slice_get, unwrap_or, if◌then◌else◌}
use Rattle.std.specs.List.{range_with_len}
use Rattle.std.proofs.lemmas.Bool.{and_from}
use Rattle.bl_tree.proofs.Basics.{and_first, and_second, get_taken, one_some}
use Rattle.bl_tree.specs.declared.static_path.Static.{Static}
use Rattle.bl_tree.specs.declared.tree.StructDef.{StructDef}
use Rattle.bl_tree.specs.declared.tree.Ty.{Ty}
use Rattle.bl_tree.specs.declared.tree.Unit.{Unit as UnitDef}
use Rattle.bl_tree.specs.declared.tree.Var.{Var}
use Rattle.bl_tree.specs.declared.value.Value.{Value}
use Rattle.bl_tree.specs.declared.value.Value.TheVariants.{Parts}
use Rattle.bl_tree.specs.Program.{IsWellTyped}
use Rattle.bl_tree.specs.Typing.{outputs_of}
use Rattle.bl_eval.specs.Values.{value_at, value_fits, values_fit}
use Rattle.bl_eval.proofs.FitLemmas.{Test}
use Rattle.bl_eval.proofs.PartFits.{Fits}
use Rattle.bl_eval.proofs.PassLemmas.{pass_at}
use Rattle.bl_ctree.specs.declared.instance.Instance.{Instance}
use Rattle.bl_ctree.specs.declared.instance.Origin.{Origin}
use Rattle.bl_ctree.specs.Instances.{Setting, setting_of, unit_at, unit_of}
use Rattle.bl_ctree.specs.Store.{Frame, Location, Store, depth_at, home, home_within, is_output_of, led, led_by, under, value_among}
use Rattle.bl_ctree.specs.Store.{variable_among, variables_of, vars_at, whole_of}
use Rattle.bl_ctree_laws_typing.specs.Fits.{FrameFits, StoreFits}
use Rattle.bl_ctree_laws_confluence.specs.Deeds.Origins.{CalledBy, HasCaller, InstancesHaveCallers}
use Rattle.bl_ctree_laws_typing.specs.Views.{ViewsAreTyped}
use Rattle.bl_ctree_laws_typing.proofs.OnViews.Along.{along, along_both, along_leads}
use Rattle.bl_ctree_laws_typing.proofs.OnViews.Paths.{PathTyped}
use Rattle.bl_ctree_laws_typing.proofs.OnViews.Running.{run_typed, typed_at}
use Rattle.bl_ctree_laws_confluence.proofs.OnDeeds.Activities.{taken}

-- ---- lists

get_drop : {A : Type 0} (xs : List A) (n k j : ℕ) → j ≡ n + k → slice_get (drop n xs) k ≡ slice_get xs j
get_drop xs zero k j is = let same : k ≡ j = omega arith in ap (slice_get xs) same
get_drop [] (suc n) zero zero is = refl
get_drop [] (suc n) zero (suc j) is = refl
get_drop [] (suc n) (suc k) zero is = refl
get_drop [] (suc n) (suc k) (suc j) is = refl
get_drop (x ∷ xs) (suc n) k zero is = absurd (omega arith)
get_drop (x ∷ xs) (suc n) k (suc j) is = let less : j ≡ n + k = omega arith in get_drop xs n k j less

-- an output's place among the outputs
output_at : (unit : UnitDef) (k : ℕ) (var : Var) → is_output_of unit k ≡ true → slice_get unit.vars k ≡ Some var →
    slice_get (outputs_of unit) (k - unit.inputs) ≡ Some var
output_at unit k var output there =
    let from : unit.inputs ≤ k = leb-true unit.inputs k (and_first (nat_le unit.inputs k) (nat_lt k (unit.inputs + unit.outputs)) output) in
    let below : k < unit.inputs + unit.outputs =
    ltb-true k (unit.inputs + unit.outputs) (and_second (nat_le unit.inputs k) (nat_lt k (unit.inputs + unit.outputs)) output) in
    let within : k - unit.inputs < unit.outputs = omega arith in
    let sum : k ≡ unit.inputs + (k - unit.inputs) = omega arith in
    get_taken (drop unit.inputs unit.vars) unit.outputs (k - unit.inputs) within
    ∙ get_drop unit.vars unit.inputs (k - unit.inputs) k sum ∙ there

-- ---- locations

-- the type of what is at a location
pub record LocationTyped (w : Setting) (at : Location) (ty : Ty) : Type 0 where
  pub unit : UnitDef
  pub there : unit_at w at.instance ≡ Some unit
  pub path : PathTyped w.structs unit.vars at.path ty

module _ (callers : InstancesHaveCallers) (structs : List StructDef) (units : List UnitDef) (entry : ℕ) (keeps : IsWellTyped structs units entry) where
  abbrev pub W : Setting
  W = setting_of structs units entry

  -- where a path of a called instance leads
  led_called : (at next : Location) (ty : Ty) (instance : Instance) (origin : Origin) (unit : UnitDef) →
      CalledBy units W.instances at.instance instance origin → slice_get units instance.unit ≡ Some unit →
      PathTyped structs unit.vars at.path ty → (output : Bool) → is_output_of unit at.path.root ≡ output → (static : Option Static) →
      slice_get origin.outputs (at.path.root - unit.inputs) ≡ static →
      (if output then option_map (under origin.caller at.path.fields) static else None) ≡ Some next → LocationTyped W next ty
  led_called at next ty instance origin unit called there typed false output static has is = absurd cc
  led_called at next ty instance origin unit called there typed true output None has is = absurd cc
  led_called at next ty instance origin unit called there typed true output (Some path) has is =
      let run = run_typed structs units called.caller.unit called.unit called.run keeps.units_stand called.body called.runs in
      let callee : slice_get units called.run.unit ≡ Some run.callee = taken units called.caller.unit called.run.unit run.callee run.there in
      let same : run.callee ≡ unit =
      one_some run.callee unit (slice_get units called.run.unit) callee (ap (slice_get units) (sym called.names) ∙ there) in
      let listed : slice_get called.run.outputs (at.path.root - unit.inputs) ≡ Some path =
      ap (λ paths. slice_get paths (at.path.root - unit.inputs)) (sym called.outputs) ∙ has in
      let outer : PathTyped structs called.unit.vars path typed.var.ty =
      typed_at structs called.unit.vars called.run.outputs (outputs_of run.callee) (at.path.root - unit.inputs) path typed.var run.outputs listed
      (ap (λ other. slice_get (outputs_of other) (at.path.root - unit.inputs)) same ∙ output_at unit at.path.root typed.var output typed.root) in
      let whole : LocationTyped W (under origin.caller at.path.fields path) ty = record {
        unit = called.unit;
        there = ap (option_and_then (unit_of W)) called.there ∙ called.body;
        path = record {
          var = outer.var;
          root = outer.root;
          leads =
              along_both structs path.fields at.path.fields outer.var.ty
              ∙ ap (option_and_then (along structs at.path.fields)) outer.leads ∙ typed.leads;
        };
      } in
      let so : under origin.caller at.path.fields path ≡ next =
      one_some (under origin.caller at.path.fields path) next (Some (under origin.caller at.path.fields path)) refl is in
      subst (λ at. LocationTyped W at ty) so whole

  -- what stands for a path of the caller has that path's type
  led_typed : (at next : Location) (ty : Ty) → LocationTyped W at ty → led W at ≡ Some next → LocationTyped W next ty
  led_typed at next ty typed is = by_instance (slice_get W.instances at.instance) refl typed.there is
    where
      by_origin : (instance : Instance) (origin : Option Origin) → slice_get W.instances at.instance ≡ Some instance →
          instance.origin ≡ origin →
          unit_of W instance ≡ Some typed.unit →
          option_and_then (λ origin. option_and_then (led_by at.path origin) (unit_of W instance)) origin ≡ Some next → LocationTyped W next ty
      by_origin instance None there began of is = absurd cc
      by_origin instance (Some origin) there began of is =
          let called : CalledBy units W.instances at.instance instance origin =
          subst (HasCaller units entry W.instances at.instance instance) began (callers units entry at.instance instance there) in
          led_called at next ty instance origin typed.unit called of typed.path (is_output_of typed.unit at.path.root) refl
          (slice_get origin.outputs (at.path.root - typed.unit.inputs)) refl
          (ap (option_and_then (led_by at.path origin)) (sym of) ∙ is)

      by_instance : (instance : Option Instance) → slice_get W.instances at.instance ≡ instance →
          option_and_then (unit_of W) instance ≡ Some typed.unit →
          option_and_then (λ instance. option_and_then (λ origin. option_and_then (led_by at.path origin) (unit_of W instance)) instance.origin)
          instance ≡ Some next → LocationTyped W next ty
      by_instance None there of is = absurd cc
      by_instance (Some instance) there of is = by_origin instance instance.origin there refl of is

  within_typed : (depth : ℕ) (at : Location) (ty : Ty) → LocationTyped W at ty → LocationTyped W (home_within W depth at) ty
  within_typed zero at ty typed = typed
  within_typed (suc depth) at ty typed = by (led W at) refl (λ next one. within_typed depth next ty one)
    where
      by : (next : Option Location) → led W at ≡ next →
          ((next : Location) → LocationTyped W next ty → LocationTyped W (home_within W depth next) ty) →
          LocationTyped W (unwrap_or (option_map (home_within W depth) next) at) ty
      by None is inner = typed
      by (Some next) is inner = inner next (led_typed at next ty typed is)

  -- and so has the home
  pub home_typed : (at : Location) (ty : Ty) → LocationTyped W at ty → LocationTyped W (home W at) ty
  home_typed at ty typed = within_typed (depth_at W at.instance) at ty typed

  -- ---- values

  -- what of a frame fits the variables of its unit
  abbrev pub Fitting : (Frame → List Value) → Type 0
  Fitting values = (unit : UnitDef) (frame : Frame) → FrameFits structs unit frame → values_fit structs unit.vars (values frame) ≡ true

  pub value_typed : (values : Frame → List Value) → Fitting values → (store : Store) → StoreFits W store → (at : Location) (ty : Ty) →
      LocationTyped W at ty → (value : Value) × (value_among values store at ≡ Some value) × Fits structs ty value
  value_typed values fitting store fits at ty typed =
      let has = fits.each at.instance typed.unit typed.there in
      let test : Var → Test = λ var. value_fits structs var.ty in
      let root = pass_at test typed.unit.vars (values has.frame) at.path.root typed.path.var (fitting typed.unit has.frame has.fits)
      typed.path.root in
      let leads = along_leads structs keeps.structs_stand at.path.fields typed.path.var.ty ty root.0 root.2 typed.path.leads in (
        leads.old,
        ap (option_and_then (λ frame. option_and_then (value_at at.path.fields) (slice_get (values frame) at.path.root))) has.is
            ∙ ap (option_and_then (value_at at.path.fields)) root.1 ∙ leads.at,
        leads.fit,
      )

  each_numbered : (f : ℕ → Value) (first : ℕ) (vars : List Var) →
      ((k : ℕ) (var : Var) → slice_get vars k ≡ Some var → value_fits structs var.ty (f (first + k)) ≡ true) →
      values_fit structs vars (map f (range_with_len first (length vars))) ≡ true
  each_numbered f first [] each = refl
  each_numbered f first (var ∷ vars) each =
      let here : first + 0 ≡ first = omega arith in
      and_from (value_fits structs var.ty (f first)) (values_fit structs vars (map f (range_with_len (first + 1) (length vars))))
      (subst (λ k. value_fits structs var.ty (f k) ≡ true) here (each 0 var refl))
      (each_numbered f (first + 1) vars (λ k other there.
      let next : first + suc k ≡ (first + 1) + k = omega arith in
      subst (λ k. value_fits structs other.ty (f k) ≡ true) next (each (suc k) other there)))

  seen_typed : (values : Frame → List Value) → Fitting values → (store : Store) → StoreFits W store → (i : ℕ) (unit : UnitDef) →
      unit_at W i ≡ Some unit → values_fit structs unit.vars (map (variable_among values W store i) (variables_of W i)) ≡ true
  seen_typed values fitting store fits i unit there =
      let vars : vars_at W i ≡ unit.vars = ap (λ o. unwrap_or (option_map (λ (unit : UnitDef). unit.vars) o) []) there in
      subst (λ vars. values_fit structs unit.vars (map (variable_among values W store i) (range_with_len 0 (length vars))) ≡ true) (sym vars)
      (each_numbered (variable_among values W store i) 0 unit.vars (λ k var at.
      let found = value_typed values fitting store fits (home W (whole_of i k)) var.ty
      (home_typed (whole_of i k) var.ty (record { unit = unit; there = there; path = record { var = var; root = at; leads = refl } })) in
      let same : k ≡ 0 + k = omega arith in
      subst (λ j. value_fits structs var.ty (variable_among values W store i j) ≡ true) same
      (subst (λ value. value_fits structs var.ty value ≡ true) (sym (ap (λ o. unwrap_or o (Parts [])) found.1)) found.2)))

pub views_typed : InstancesHaveCallers → ViewsAreTyped
views_typed callers structs units entry i unit store keeps there fits = record {
  now = seen_typed callers structs units entry keeps (λ frame. frame.now) (λ unit frame one. one.now) store fits i unit there;
  before = seen_typed callers structs units entry keeps (λ frame. frame.before) (λ unit frame one. one.before) store fits i unit there;
}
