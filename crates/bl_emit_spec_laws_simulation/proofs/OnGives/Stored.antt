-- What instances see once the inputs of a `run` went to the frame of what it calls.
use Rattle.std.proofs.Common.{◌≡◌, ℕ, ◌+◌, ◌<◌, ◌≤◌, arith, Bool, true}
use Rattle.std.proofs.Common.{false, List, [], ◌∷◌, ◌++◌, take, drop, length}
use Rattle.std.proofs.Common.{Option, Some, None, refl, sym, ap, ◌∙◌, subst, eqb-true}
use Rattle.std.proofs.lemmas.Option.{same_Some, slice_get-get_or}
use Rattle.std.specs.Prelude.{nat_eq, option_and_then, option_map, slice_get, slice_set, unwrap_or}
use Rattle.bl_tree.proofs.Basics.{get_front}
use Rattle.bl_tree.specs.declared.place.Place.{Place}
use Rattle.bl_tree.specs.declared.static_path.Static.{Static}
use Rattle.bl_tree.specs.declared.tree.Expr.{Expr}
use Rattle.bl_tree.specs.declared.tree.StructDef.{StructDef}
use Rattle.bl_tree.specs.declared.tree.Unit.{Unit as UnitDef}
use Rattle.bl_tree.specs.declared.tree.Var.{Var}
use Rattle.bl_tree.specs.declared.value.Value.{Value}
use Rattle.bl_tree.specs.declared.value.Value.TheVariants.{Parts}
use Rattle.bl_eval.specs.Meaning.{read_at}
use Rattle.bl_eval.specs.Values.{value_at}
use Rattle.bl_eval.proofs.OperatorFits.{some_found}
use Rattle.bl_eval_laws.proofs.OnLocal.Locality.{value_within}
use Rattle.bl_ctree.specs.declared.instance.Instance.{Instance}
use Rattle.bl_ctree.specs.Actions.{Copies, Performed, done, values_there}
use Rattle.bl_ctree.specs.Instances.{Setting, callee_of, setting_of, unit_at, unit_of}
use Rattle.bl_ctree.specs.Store.{Frame, Location, Store, home, is_output_of, led}
use Rattle.bl_ctree.specs.Store.{value_among, variable_among, vars_at, view_at, whole_of, with_frame, with_inputs}
use Rattle.bl_ctree_laws.specs.Pending.{deed}
use Rattle.bl_ctree_laws_confluence.specs.Deeds.Nesting.{InstancesNest}
use Rattle.bl_ctree_laws_confluence.specs.Deeds.Nesting as nesting
use Rattle.bl_ctree_laws_confluence.specs.Deeds.Origins.{HomesLeadOut}
use Rattle.bl_ctree_laws_typing.specs.Fits.{HasFrame}
use Rattle.bl_ctree_laws_confluence.specs.Stores.{FramesKeepOthers, HomesLeadOn, now_of, onward}
use Rattle.bl_machine_laws.specs.Passes.Follows.{DeedYields}
use Rattle.bl_emit_spec_laws_simulation.proofs.OnGives.Lists.{itself_only, mapped_at, taken_is}
use Rattle.bl_emit_spec_laws_simulation.proofs.OnGives.Roles.{input_no_output, led_nowhere}
use Rattle.bl_machine_pass_laws_execution.proofs.OnFresh.Doing.{found}
use Rattle.bl_machine_pass_laws_typing.proofs.OnSeen.Seeing.{mapped_got}
use Rattle.bl_ctree_laws_confluence.proofs.OnStores.Views.{nothing_there}
use Rattle.bl_emit_acts_laws_simulation.proofs.Written.{set_same}
use Rattle.bl_emit_spec_laws_nodes.proofs.OnViews.Leaving.{same_mapped}
use Rattle.bl_machine_pass_laws_execution.proofs.OnFresh.Lists.{behind_front}

-- ---- values at homes

-- what is onward from a home is in what is at the home
among_onward : (store : Store) (at : Location) (fields : List ℕ) →
    value_among now_of store (onward at fields) ≡ option_and_then (value_at fields) (value_among now_of store at)
among_onward store at fields = by_frame (slice_get store at.instance)
  where
    by_value : (value : Option Value) →
        option_and_then (value_at (at.path.fields ++ fields)) value ≡ option_and_then (value_at fields) (option_and_then (value_at at.path.fields) value)
    by_value None = refl
    by_value (Some value) = value_within at.path.fields fields value

    by_frame : (frame : Option Frame) →
        option_and_then (λ frame. option_and_then (value_at (at.path.fields ++ fields)) (slice_get (now_of frame) at.path.root)) frame
        ≡ option_and_then (value_at fields)
        (option_and_then (λ frame. option_and_then (value_at at.path.fields) (slice_get (now_of frame) at.path.root)) frame)
    by_frame None = refl
    by_frame (Some frame) = by_value (slice_get (now_of frame) at.path.root)

-- a value that is seen at fields is there, or nothing is
seen_through : (fields : List ℕ) (o : Option Value) (v : Value) → value_at fields (unwrap_or o (Parts [])) ≡ Some v →
    unwrap_or (option_and_then (value_at fields) o) (Parts []) ≡ v
seen_through fields (Some a) v h = ap (λ o. unwrap_or o (Parts [])) h
seen_through [] None v h = same_Some (Parts []) v h
seen_through (f ∷ fields) None v h = absurd (let no : None ≡ Some v = sym (nothing_there f fields) ∙ h in cc)

-- ---- the inputs that were copied

-- the values of the inputs, and the store in which they are the callee's
pub record Copied (w : Setting) (i j : ℕ) (inputs : List Expr) (store given : Store) : Type 0 where
  pub values : List Value
  pub are : values_there w store i inputs ≡ Some values
  pub is : with_frame j (with_inputs values) store ≡ given

pub copied : (w : Setting) (i j : ℕ) (at : Place) (inputs : List Expr) (store given : Store) →
    DeedYields w (deed i at (Copies j inputs)) store true given → Copied w i j inputs store given
copied w i j at inputs store given does =
    let answered : Performed = record { answer = true; store = given } in
    let p = found (λ values. done (with_frame j (with_inputs values) store)) (values_there w store i inputs) answered does in
    record { values = p.0; are = p.1; is = ap (λ (p : Performed). p.store) p.2 }

module _ (keep : FramesKeepOthers) (homes : HomesLeadOut) (along : HomesLeadOn) (structs : List StructDef) (units : List UnitDef) (entry : ℕ)
    (nest : InstancesNest structs units entry) (j : ℕ) (other : UnitDef) (there : unit_at (setting_of structs units entry) j ≡ Some other)
    (store : Store) (has : HasFrame (setting_of structs units entry) store j other) (values : List Value)
    (long : length values ≡ other.inputs) (few : other.inputs + other.outputs ≤ length other.vars) where
  abbrev w : Setting
  w = setting_of structs units entry

  abbrev left : Store
  left = with_frame j (with_inputs values) store

  left_at : slice_get left j ≡ Some (with_inputs values has.frame)
  left_at =
      ap (λ o. slice_get (unwrap_or (option_map (λ frame. slice_set store j (with_inputs values frame)) o) store) j) has.is
      ∙ set_same store j (with_inputs values has.frame) has.frame has.is

  vars_are : vars_at w j ≡ other.vars
  vars_are = ap (λ o. unwrap_or (option_map (λ (unit : UnitDef). unit.vars) o) []) there

  -- the callee's variables, where they are
  variable_seen : (x : ℕ) → x < length other.vars → slice_get (view_at w left j).now x ≡ Some (variable_among now_of w left j x)
  variable_seen x less =
      mapped_at (variable_among now_of w left j) (length (vars_at w j)) x
      (subst (λ (vars : List Var). x < length vars) (sym vars_are) less)

  own_seen : (x : ℕ) → x < length other.vars → led w (whole_of j x) ≡ None →
      slice_get (view_at w left j).now x ≡ Some (unwrap_or (slice_get (values ++ drop (length values) has.frame.now) x) (Parts []))
  own_seen x less none =
      variable_seen x less
      ∙ ap (λ o. Some (unwrap_or o (Parts [])))
      (ap (value_among now_of left) (homes.own w (whole_of j x) none)
      ∙ (ap (λ o. option_and_then (λ frame. option_and_then (value_at []) (slice_get (now_of frame) x)) o) left_at
      ∙ itself_only (slice_get (values ++ drop (length values) has.frame.now) x)))

  unit_is : (instance : Instance) (unit : UnitDef) → slice_get w.instances j ≡ Some instance → unit_of w instance ≡ Some unit → other ≡ unit
  unit_is instance unit is of = same_Some other unit (sym there ∙ (ap (option_and_then (unit_of w)) is ∙ of))

  input_seen : (x : ℕ) → x < other.inputs → slice_get (view_at w left j).now x ≡ slice_get values x
  input_seen x less =
      let within : x < length other.vars = omega (arith, less, few) in
      let inside : x < length values = omega (arith, less, long) in
      let got = slice_get-get_or values x (Parts []) inside in
      own_seen x within
      (led_nowhere w j x (λ instance unit is of.
      subst (λ unit. is_output_of unit x ≡ false) (unit_is instance unit is of) (input_no_output other x less)))
      ∙ (ap (λ o. Some (unwrap_or o (Parts []))) (get_front values (drop (length values) has.frame.now) x inside ∙ got) ∙ sym got)

  -- the callee sees the values of the inputs
  pub inputs_are : take other.inputs (view_at w left j).now ≡ values
  inputs_are = taken_is (view_at w left j).now values other.inputs long input_seen

  -- and at its outputs what its caller sees there
  pub output_seen : (i n : ℕ) (at : Place) (s : Static) (v : Value) → callee_of w i at ≡ Some j → n < other.outputs →
      home w (whole_of j (other.inputs + n)) ≡ home w (record { instance = i; path = s }) → read_at s.root (view_at w store i).now s.fields ≡ Some v →
      slice_get (view_at w left j).now (other.inputs + n) ≡ Some v
  output_seen i n at s v called less same read =
      let within : other.inputs + n < length other.vars = omega (arith, less, few) in
      let at_home : Location = home w (record { instance = i; path = s }) in
      let whole : Option Value = value_among now_of store (home w (whole_of i s.root)) in
      let found_root = some_found (value_at s.fields) (slice_get (view_at w store i).now s.root) v read in
      let root_is = mapped_got (variable_among now_of w store i) (length (vars_at w i)) s.root found_root.0 found_root.1 in
      let through : value_at s.fields (unwrap_or whole (Parts [])) ≡ Some v = ap (value_at s.fields) root_is ∙ found_root.2 in
      let value_is : value_among now_of left (home w (whole_of j (other.inputs + n))) ≡ option_and_then (value_at s.fields) whole =
      ap (value_among now_of left) same
      ∙ (keep.values now_of j (with_inputs values) at_home store (nest.hidden i j j at s called nesting.itself)
      ∙ (ap (value_among now_of store) (along w i s) ∙ among_onward store (home w (whole_of i s.root)) s.fields)) in
      variable_seen (other.inputs + n) within
      ∙ ap Some (ap (λ o. unwrap_or o (Parts [])) value_is ∙ seen_through s.fields whole v through)

  -- what is no input of the callee, and leads to no caller, is what it was
  pub kept_seen : (k x : ℕ) → led w (whole_of k x) ≡ None → (j ≡ k → other.inputs ≤ x) →
      slice_get (view_at w left k).now x ≡ slice_get (view_at w store k).now x
  kept_seen k x none behind =
      same_mapped (variable_among now_of w left k) (variable_among now_of w store k) (length (vars_at w k)) x
      (ap (λ o. unwrap_or o (Parts []))
      (ap (value_among now_of left) (homes.own w (whole_of k x) none)
      ∙ (by (nat_eq j k) refl ∙ ap (value_among now_of store) (sym (homes.own w (whole_of k x) none)))))
    where
      same_frame : other.inputs ≤ x → value_among now_of left (whole_of j x) ≡ value_among now_of store (whole_of j x)
      same_frame least =
          let past : length values ≤ x = omega (arith, least, long) in
          ap (λ o. option_and_then (λ frame. option_and_then (value_at []) (slice_get (now_of frame) x)) o) left_at
          ∙ (ap (option_and_then (value_at [])) (behind_front values has.frame.now x past)
          ∙ sym (ap (λ o. option_and_then (λ frame. option_and_then (value_at []) (slice_get (now_of frame) x)) o) has.is))

      by : (b : Bool) → nat_eq j k ≡ b → value_among now_of left (whole_of k x) ≡ value_among now_of store (whole_of k x)
      by false is = keep.values now_of j (with_inputs values) (whole_of k x) store is
      by true is =
          let same = eqb-true j k is in
          subst (λ k. value_among now_of left (whole_of k x) ≡ value_among now_of store (whole_of k x)) same (same_frame (behind same))
