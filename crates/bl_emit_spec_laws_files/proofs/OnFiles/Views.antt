-- What is seen in stores between ticks and as ticks begin.
use Rattle.std.proofs.Common.{◌≡◌, ℕ, ℤ, zero, suc, ◌+◌, ◌-◌, ◌≤◌, Bool, true, false, ◌&&◌, ◌||◌, List}
use Rattle.std.proofs.Common.{[], ◌∷◌, map, length}
use Rattle.std.proofs.Common.{Option, Some, None, refl, sym, ap, ◌∙◌, subst, arith}
use Rattle.std.proofs.lemmas.Bool.{le-ltb, ltb-false, ltb-true}
use Rattle.std.proofs.lemmas.Option.{same_Some}
use Rattle.std.specs.List.{list_all, range_with_len}
use Rattle.std.specs.Prelude.{is_some, nat_le, nat_lt, option_and_then, option_map, slice_get, unwrap_or, if◌then◌else◌}
use Rattle.bl_tree.proofs.Basics.{and_first, and_second, within_at}
use Rattle.bl_tree.specs.declared.tree.Role.{Role}
use Rattle.bl_tree.specs.declared.tree.Role.TheVariants.{Fixed, Input, Output, Variable}
use Rattle.bl_tree.specs.declared.tree.StructDef.{StructDef}
use Rattle.bl_tree.specs.declared.tree.Unit.{Unit as UnitDef}
use Rattle.bl_tree.specs.declared.tree.Var.{Var}
use Rattle.bl_tree.specs.declared.value.Value.{Value}
use Rattle.bl_tree.specs.declared.value.Value.TheVariants.{Number, Parts}
use Rattle.bl_tree.specs.Program.{is_input, is_output, names_of, parameters_of, roles_stand}
use Rattle.bl_tree.specs.Static.{whole}
use Rattle.bl_tree.specs.Types.{scalar_in}
use Rattle.bl_tree.specs.Typing.{is_activity, var_at}
use Rattle.bl_tree.specs.Words.{are_distinct, is_name}
use Rattle.bl_eval.specs.Values.{value_at, zero_of}
use Rattle.bl_ctree.specs.declared.instance.Instance.{Instance}
use Rattle.bl_ctree.specs.declared.instance.Origin.{Origin}
use Rattle.bl_ctree.specs.Instances.{Setting, expanded, instances_below, runs_of, setting_of, unit_at, unit_of}
use Rattle.bl_ctree.specs.Store as store
use Rattle.bl_ctree.specs.Store.{Frame, Store, aged, first_frame, first_store, frame_at_first, home, home_within, is_output_of, led, led_by, under, value_among}
use Rattle.bl_ctree.specs.Store.{variable_among, variables_of, vars_at, view_at, whole_of, woken_store}
use Rattle.bl_ctree_laws_confluence.specs.Deeds.Orderly.{AcceptedIsOrderly}
use Rattle.bl_ctree_laws_confluence.specs.Deeds.Origins.{HomesLeadOut}
use Rattle.bl_emit_acts.specs.declared.home.Home.TheVariants.{Held}
use Rattle.bl_emit_acts.specs.Places.{home_of, home_of_role}
use Rattle.bl_emit_acts_laws_simulation.proofs.Homes.{activity_home, input_unheld, output_unheld}
use Rattle.bl_emit_acts_laws_simulation.specs.Encodes.{home_at}
use Rattle.bl_machine.specs.declared.machine.Activity.{Activity as InMachine}
use Rattle.bl_machine_pass_laws_typing.proofs.OnFits.Doing.{stands_at}
use Rattle.bl_machine_pass_laws_execution.proofs.OnFresh.Lists.{behind_front, get_mapped, range_at}
use Rattle.bl_emit_functions_laws_simulation.proofs.OnCalls.Locals.{parameter_role}
use Rattle.bl_emit_spec_laws.specs.Calls.Built.{Activities, activity_at, site_at, unit_number}
use Rattle.bl_emit_spec_laws.specs.Calls.Laws.{CompilationContext}
use Rattle.bl_emit_spec_laws_files.proofs.OnFiles.Lists.{seen_from}
use Rattle.bl_eval.proofs.UnitFits.{unit_at as unit_stands_at}
use Rattle.bl_emit_spec_laws.proofs.OnActivities.Nested.{unit_by}
use Rattle.bl_emit_spec_laws_nodes.proofs.OnPoints.Results.{now_of}

-- ---- roles

parameter_elsewhere : (role : Role) (scalar : Bool) → (is_input role || is_output role) ≡ true → home_of_role false role scalar false ≡ Held → ⊥
parameter_elsewhere Input scalar is held = input_unheld false Input scalar refl held
parameter_elsewhere Output scalar is held = output_unheld false Output scalar false refl held
parameter_elsewhere Variable scalar is held = cc
parameter_elsewhere Fixed scalar is held = cc

abbrev pub arity : UnitDef → ℕ
arity unit = unit.inputs + unit.outputs

-- ---- homes

no_output : (unit : UnitDef) (x : ℕ) → arity unit ≤ x → is_output_of unit x ≡ false
no_output unit x more = by_first (nat_le unit.inputs x) (nat_lt x (arity unit)) (le-ltb x (arity unit) more)
  where
    by_first : (a b : Bool) → b ≡ false → (a && b) ≡ false
    by_first true b e = e
    by_first false b e = refl

unled : (w : Setting) (i x : ℕ) (unit : UnitDef) → unit_at w i ≡ Some unit → arity unit ≤ x → led w (whole_of i x) ≡ None
unled w i x unit is more = by_instance (slice_get w.instances i) is
  where
    by_origin : (o : Option Origin) → option_and_then (λ origin. option_and_then (led_by (whole x) origin) (Some unit)) o ≡ None
    by_origin None = refl
    by_origin (Some origin) =
        ap (λ b. if b then option_map (under origin.caller []) (slice_get origin.outputs (x - unit.inputs)) else None) (no_output unit x more)

    by_instance : (found : Option Instance) → option_and_then (unit_of w) found ≡ Some unit →
        option_and_then (λ instance. option_and_then
        (λ origin. option_and_then (led_by (whole x) origin) (unit_of w instance)) instance.origin) found
        ≡ None
    by_instance None e = refl
    by_instance (Some instance) e =
        ap (λ u. option_and_then (λ origin. option_and_then (led_by (whole x) origin) u) instance.origin) e ∙ by_origin instance.origin

-- what a frame has of a variable
abbrev of_frame : ℕ → Frame → Option Value
of_frame x frame = option_and_then (value_at []) (slice_get frame.now x)

-- ---- stores as ticks begin

-- the first frame
pub woken_first : (row : List ℤ) (s : Store) (frame : Frame) → slice_get s 0 ≡ Some frame →
    slice_get (woken_store row s) 0 ≡ Some (store.with_inputs (map Number row) (aged frame))
woken_first row [] frame is = absurd (cc)
woken_first row (f ∷ fs) frame is = ap (λ (g : Frame). Some (store.with_inputs (map Number row) (aged g))) (same_Some f frame is)

woken_later : (row : List ℤ) (s : Store) (j : ℕ) → slice_get (woken_store row s) (suc j) ≡ option_map aged (slice_get s (suc j))
woken_later row [] j = refl
woken_later row (f ∷ fs) j = get_mapped aged fs j

aged_same : (x : ℕ) (o : Option Frame) → option_and_then (of_frame x) (option_map aged o) ≡ option_and_then (of_frame x) o
aged_same x None = refl
aged_same x (Some frame) = refl

woken_own : (row : List ℤ) (s : Store) (x : ℕ) → length (map Number row) ≤ x →
    option_and_then (of_frame x) (slice_get (woken_store row s) 0) ≡ option_and_then (of_frame x) (slice_get s 0)
woken_own row [] x past = refl
woken_own row (f ∷ fs) x past = ap (option_and_then (value_at [])) (behind_front (map Number row) f.now x past)

-- a variable behind the inputs is what it was
woken_same : (row : List ℤ) (s : Store) (i x : ℕ) → (i ≡ 0 → length (map Number row) ≤ x) →
    value_among now_of (woken_store row s) (whole_of i x) ≡ value_among now_of s (whole_of i x)
woken_same row s zero x past = woken_own row s x (past refl)
woken_same row s (suc j) x past = ap (option_and_then (of_frame x)) (woken_later row s j) ∙ aged_same x (slice_get s (suc j))

-- ---- a program

module _ (out : HomesLeadOut) (orderly : AcceptedIsOrderly) (structs : List StructDef) (units : List UnitDef) (entry : ℕ)
    (machine : List InMachine) (activities : Activities) (compiled : CompilationContext structs units entry machine activities) where
  abbrev pub W : Setting
  W = setting_of structs units entry

  -- the unit of an instance stands at its position
  pub unit_there : (i : ℕ) (unit : UnitDef) → unit_at W i ≡ Some unit → slice_get units (unit_number W i) ≡ Some unit
  unit_there i unit is = unit_by W (slice_get W.instances i) unit is

  pub own_unit : (i : ℕ) (unit : UnitDef) → unit_at W i ≡ Some unit → (activity_at W activities i).unit ≡ unit
  own_unit i unit is = compiled.built.unit (unit_number W i) unit (unit_there i unit is)

  pub roles_at : (k : ℕ) (unit : UnitDef) → slice_get units k ≡ Some unit → roles_stand unit ≡ true
  roles_at k unit there =
      and_first (roles_stand unit) (list_all is_name (names_of unit.vars) && are_distinct (names_of (parameters_of unit)))
      (and_first _ _ (unit_stands_at structs [] units k unit compiled.well_typed.units_stand there))

  pub distinct_at : (k : ℕ) (unit : UnitDef) → slice_get units k ≡ Some unit → are_distinct (names_of (parameters_of unit)) ≡ true
  distinct_at k unit there =
      and_second (list_all is_name (names_of unit.vars)) (are_distinct (names_of (parameters_of unit)))
      (and_second (roles_stand unit) (list_all is_name (names_of unit.vars) && are_distinct (names_of (parameters_of unit)))
      (and_first _ _ (unit_stands_at structs [] units k unit compiled.well_typed.units_stand there)))

  -- a variable that an instance remembers is behind the parameters
  module _ (i x : ℕ) (var : Var) (unit : UnitDef) (is : unit_at W i ≡ Some unit) (is_var : var_at (site_at W activities i) x ≡ Some var)
      (held : home_at (site_at W activities i) x ≡ Held) where
    active : is_activity unit.kind ≡ true
    active = ((orderly structs units entry compiled.well_typed compiled.passes).each i unit is).activity

    var_there : slice_get unit.vars x ≡ Some var
    var_there = subst (λ (u : UnitDef). slice_get u.vars x ≡ Some var) (own_unit i unit is) is_var

    held_role : home_of_role false var.role (is_some (scalar_in var.ty)) false ≡ Held
    held_role =
        sym (activity_home (site_at W activities i) var (ap (λ (u : UnitDef). is_activity u.kind) (own_unit i unit is) ∙ active))
        ∙ sym (ap (home_of (site_at W activities i)) is_var) ∙ held

    pub behind_parameters : arity unit ≤ x
    behind_parameters = by (nat_lt x (arity unit)) refl
      where
        by : (b : Bool) → nat_lt x (arity unit) ≡ b → arity unit ≤ x
        by true e =
            absurd (parameter_elsewhere var.role (is_some (scalar_in var.ty))
            (parameter_role structs [] unit (roles_at (unit_number W i) unit (unit_there i unit is)) x var var_there (ltb-true x (arity unit) e)) held_role)
        by false e = ltb-false x (arity unit) e

    own_home : home W (whole_of i x) ≡ whole_of i x
    own_home = out.own W (whole_of i x) (unled W i x unit is behind_parameters)

    -- and is seen in the instance's frame
    pub held_seen : (s : Store) → slice_get (view_at W s i).now x ≡ Some (unwrap_or (value_among now_of s (whole_of i x)) (Parts []))
    held_seen s =
        get_mapped (variable_among now_of W s i) (variables_of W i) x
        ∙ ap (option_map (variable_among now_of W s i)) (ap (λ vars. slice_get (range_with_len 0 (length vars)) x) vars_are
        ∙ range_at 0 (length unit.vars) x (within_at unit.vars x var var_there) ∙ ap Some from_zero)
        ∙ ap (λ at. Some (unwrap_or (value_among now_of s at) (Parts []))) own_home
      where
        from_zero : 0 + x ≡ x
        from_zero = omega arith

        vars_are : vars_at W i ≡ unit.vars
        vars_are = ap (λ u. unwrap_or (option_map (λ (unit : UnitDef). unit.vars) u) []) is

    -- in the first store it is 0
    pub held_first : slice_get (view_at W (first_store W) i).now x ≡ Some (zero_of structs var.ty)
    held_first =
        let at = stands_at structs units entry i unit is in
        let empty : Frame = record { now = []; before = []; result = None } in
        held_seen (first_store W)
        ∙ ap (λ (o : Option Frame). Some (unwrap_or (option_and_then (of_frame x) o) (Parts [])))
        (get_mapped (frame_at_first W) W.instances i ∙ ap (option_map (frame_at_first W)) at.there
        ∙ ap (λ (o : Option UnitDef). Some (unwrap_or (option_map (first_frame structs) o) empty)) at.of)
        ∙ ap (λ (o : Option Value). Some (unwrap_or (option_and_then (value_at []) o) (Parts [])))
        (get_mapped (λ (v : Var). zero_of structs v.ty) unit.vars x ∙ ap (option_map (λ (v : Var). zero_of structs v.ty)) var_there)

  -- what is seen is of a unit
  none_seen : (s : Store) (i x : ℕ) (value : Value) → unit_at W i ≡ None → slice_get (view_at W s i).now x ≡ Some value → ⊥
  none_seen s i x value none is =
      let no_vars : vars_at W i ≡ [] = ap (λ (o : Option UnitDef). unwrap_or (option_map (λ (unit : UnitDef). unit.vars) o) []) none in
      let both = sym (ap (λ (vars : List Var). slice_get (map (variable_among now_of W s i) (range_with_len 0 (length vars))) x) no_vars) ∙ is in
      cc

  -- ---- the entry

  module _ (unit : UnitDef) (there : slice_get units entry ≡ Some unit) where
    abbrev root : Instance
    root = record { unit = entry; depth = 0; origin = None }

    root_is : slice_get W.instances 0 ≡ Some root
    root_is =
        let sum : entry + 1 ≡ suc entry = omega arith in
        ap (λ n. slice_get (expanded units n entry) 0) sum
        ∙ ap (λ (o : Option UnitDef). slice_get (unwrap_or (option_map (λ (unit : UnitDef). root
        ∷ instances_below (expanded units entry) 1 (runs_of unit)) o) []) 0) there

    pub entry_is : unit_at W 0 ≡ Some unit
    entry_is = ap (option_and_then (unit_of W)) root_is ∙ there

    pub entry_number : unit_number W 0 ≡ entry
    entry_number = ap (λ (o : Option Instance). unwrap_or (option_map (λ (instance : Instance). instance.unit) o) 0) root_is

    -- what the entry sees is what its frame has
    pub entry_sees : (s : Store) (frame : Frame) → slice_get s 0 ≡ Some frame → length frame.now ≡ length unit.vars →
        (view_at W s 0).now ≡ frame.now
    entry_sees s frame is long =
        ap (λ (o : Option UnitDef). map (variable_among now_of W s 0)
        (range_with_len 0 (length (unwrap_or (option_map (λ (unit : UnitDef). unit.vars) o) [])))) entry_is
        ∙ ap (λ n. map (variable_among now_of W s 0) (range_with_len 0 n)) (sym long)
        ∙ seen_from (variable_among now_of W s 0) 0 frame.now each
      where
        each : (k : ℕ) (x : Value) → slice_get frame.now k ≡ Some x → variable_among now_of W s 0 (0 + k) ≡ x
        each k x at =
            let from_zero : 0 + k ≡ k = omega arith in
            ap (variable_among now_of W s 0) from_zero
            ∙ ap (λ (o : Option Instance). unwrap_or (value_among now_of s (home_within W
            (unwrap_or (option_map (λ (instance : Instance). instance.depth) o) 0) (whole_of 0 k))) (Parts [])) root_is
            ∙ ap (λ (o : Option Frame). unwrap_or (option_and_then (of_frame k) o) (Parts [])) is
            ∙ ap (λ (o : Option Value). unwrap_or (option_and_then (value_at []) o) (Parts [])) at

    -- as a tick begins what is remembered is what it was
    pub woken_held : (row : List ℤ) (s : Store) (i x : ℕ) (var : Var) (value : Value) → length (map Number row) ≤ arity unit →
        var_at (site_at W activities i) x ≡ Some var → home_at (site_at W activities i) x ≡ Held →
        slice_get (view_at W (woken_store row s) i).now x ≡ Some value → slice_get (view_at W s i).now x ≡ Some value
    woken_held row s i x var value long is_var held is = by (unit_at W i) refl
      where
        by : (o : Option UnitDef) → unit_at W i ≡ o → slice_get (view_at W s i).now x ≡ Some value
        by None e = absurd (none_seen (woken_store row s) i x value e is)
        by (Some other) e =
            held_seen i x var other e is_var held s
            ∙ sym (ap (λ (o : Option Value). Some (unwrap_or o (Parts []))) (woken_same row s i x past))
            ∙ sym (held_seen i x var other e is_var held (woken_store row s)) ∙ is
          where
            past : i ≡ 0 → length (map Number row) ≤ x
            past first =
                let same = same_Some other unit (sym e ∙ ap (unit_at W) first ∙ entry_is) in
                let more = behind_parameters i x var other e is_var held in
                let many : arity other ≡ arity unit = ap arity same in
                omega (arith, long, more, many)

    pub first_held : (i x : ℕ) (var : Var) (value : Value) → var_at (site_at W activities i) x ≡ Some var →
        home_at (site_at W activities i) x ≡ Held → slice_get (view_at W (first_store W) i).now x ≡ Some value → value ≡ zero_of structs var.ty
    first_held i x var value is_var held is = by (unit_at W i) refl
      where
        by : (o : Option UnitDef) → unit_at W i ≡ o → value ≡ zero_of structs var.ty
        by None e = absurd (none_seen (first_store W) i x value e is)
        by (Some other) e = same_Some value (zero_of structs var.ty) (sym is ∙ held_first i x var other e is_var held)

    -- the entry's frame in the first store
    pub first_frame_now : (frame : Frame) → slice_get (first_store W) 0 ≡ Some frame →
        frame.now ≡ map (λ (var : Var). zero_of structs var.ty) unit.vars
    first_frame_now frame is =
        let empty : Frame = record { now = []; before = []; result = None } in
        ap (λ (frame : Frame). frame.now) (same_Some frame (first_frame structs unit)
        (sym is ∙ get_mapped (frame_at_first W) W.instances 0 ∙ ap (option_map (frame_at_first W)) root_is
        ∙ ap (λ (o : Option UnitDef). Some (unwrap_or (option_map (first_frame structs) o) empty)) there))
