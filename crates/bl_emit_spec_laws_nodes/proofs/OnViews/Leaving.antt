-- What an act leaves of what isn't its instance's.
use Rattle.std.proofs.Common.{◌≡◌, ◌+◌, ◌-◌, arith, length, ℕ, zero, suc, true, false, ◌&&◌, List, [], ◌∷◌, map}
use Rattle.std.proofs.Common.{Option, Some, None, refl, sym, ap, ◌∙◌, subst}
use Rattle.std.proofs.lemmas.Option.{same_Some, slice_get-map}
use Rattle.std.specs.List.{range_with_len}
use Rattle.std.specs.Prelude.{option_and_then, option_map, slice_get, unwrap_or, if◌then◌else◌}
use Rattle.bl_tree.proofs.Basics.{number_test_swap}
use Rattle.bl_tree.specs.declared.place.Place.{Place}
use Rattle.bl_tree.specs.declared.static_path.Static.{Static}
use Rattle.bl_tree.specs.declared.tree.Arm.{Arm}
use Rattle.bl_tree.specs.declared.tree.Branch.{Branch}
use Rattle.bl_tree.specs.declared.tree.Stmt.{Stmt}
use Rattle.bl_tree.specs.declared.tree.StmtKind.{StmtKind}
use Rattle.bl_tree.specs.declared.tree.StmtKind.TheOpen.{StmtKind-F}
use Rattle.bl_tree.specs.declared.tree.StructDef.{StructDef}
use Rattle.bl_tree.specs.declared.tree.Unit.{Unit as UnitDef}
use Rattle.bl_tree.specs.declared.tree.Var.{Var}
use Rattle.bl_tree.specs.declared.value.Value.{Value}
use Rattle.bl_tree.specs.declared.value.Value.TheVariants.{Parts}
use Rattle.bl_tree.specs.Effects.{writes}
use Rattle.bl_tree.specs.Static.{overlaps, whole}
use Rattle.bl_tree.specs.Typing.{var_at}
use Rattle.bl_eval.specs.Values.{value_at}
use Rattle.bl_ctext_semantics.specs.Memory.{Location as CLocation}
use Rattle.bl_ctree.specs.declared.instance.Instance.{Instance}
use Rattle.bl_ctree.specs.declared.instance.Origin.{Origin}
use Rattle.bl_ctree.specs.Actions.{Performed, acted_kind, done, outcome_there, result_at}
use Rattle.bl_ctree.specs.Instances.{Setting, callee_of, setting_of, unit_of}
use Rattle.bl_ctree.specs.Positions.{stmt_kind}
use Rattle.bl_ctree.specs.Store.{Location, Store, home, home_within, led, led_by, overlap, put}
use Rattle.bl_ctree.specs.Store.{put_path, put_written, remember, value_among, variable_among}
use Rattle.bl_ctree.specs.Store.{depth_at, is_output_of, under, vars_at, view_at, whole_of, with_frame}
use Rattle.bl_ctree_laws_confluence.specs.Deeds.Nesting.{Inside, InstancesNest, ProgramsNest}
use Rattle.bl_ctree_laws_confluence.specs.Deeds.Nesting as nesting
use Rattle.bl_ctree_laws_confluence.specs.Stores.{PutsKeepOthers, RememberingKeepsOthers, now_of}
use Rattle.bl_emit_acts.specs.declared.home.Home.TheVariants.{Held}
use Rattle.bl_emit_acts.specs.Places.{home_of}
use Rattle.bl_emit_acts_laws_simulation.specs.Acts.{is_act}
use Rattle.bl_emit_acts_laws_simulation.specs.Encodes.{home_at}
use Rattle.bl_machine.specs.declared.machine.Activity.{Activity as InMachine}
use Rattle.bl_emit_spec_laws.specs.Calls.Built.{Activities, run_by, site_at, unit_number}
use Rattle.bl_emit_spec_laws.specs.Calls.Laws.{CompilationContext}
use Rattle.bl_emit_spec_laws.specs.Calls.Memories as memories
use Rattle.bl_emit_spec_laws.specs.Calls.Memories.{Nests, inner}
use Rattle.bl_emit_spec_laws_nodes.specs.Views.{ActsLeave}
use Rattle.bl_emit_spec_laws_nodes.proofs.OnViews.Outputs.{held_inside}
use Rattle.bl_ctree_laws_confluence.proofs.OnStores.Views.{range_at}

-- ---- numbers

-- functions that are alike at a position
pub same_mapped : {X : Type 0} (f g : ℕ → X) (count x : ℕ) → f x ≡ g x →
    slice_get (map f (range_with_len 0 count)) x ≡ slice_get (map g (range_with_len 0 count)) x
same_mapped f g count x same =
    slice_get-map f (range_with_len 0 count) x
    ∙ (by (slice_get (range_with_len 0 count) x) refl ∙ sym (slice_get-map g (range_with_len 0 count) x))
  where
    by : (o : Option ℕ) → slice_get (range_with_len 0 count) x ≡ o → option_map f o ≡ option_map g o
    by None is = refl
    by (Some y) is =
        let at : y ≡ x = (let sum : y ≡ 0 + x = range_at 0 count x y is in omega arith) in ap Some (ap f at ∙ (same ∙ ap g (sym at)))

-- ---- what is put

module _ (puts : PutsKeepOthers) (w : Setting) (i : ℕ) (values : List Value) where
  path_result : (path : Static) (store : Store) → result_at (put_path w i values path store) i ≡ result_at store i
  path_result path store = by (option_and_then (value_at path.fields) (slice_get values path.root))
    where
      by : (o : Option Value) →
          result_at (unwrap_or (option_map (λ value. put (home w (record { instance = i; path = path })) value store) o) store) i ≡ result_at
          store i
      by None = refl
      by (Some value) = puts.results (home w (record { instance = i; path = path })) value store i

  written_result : (paths : List Static) (store : Store) → result_at (put_written w i values paths store) i ≡ result_at store i
  written_result [] store = refl
  written_result (path ∷ paths) store = written_result paths (put_path w i values path store) ∙ path_result path store

  -- at a location that no home of the instance overlaps
  module _ (b : Location) (clear : (path : Static) → overlap (home w (record { instance = i; path = path })) b ≡ false) where
    path_now : (path : Static) (store : Store) → value_among now_of (put_path w i values path store) b ≡ value_among now_of store b
    path_now path store = by (option_and_then (value_at path.fields) (slice_get values path.root))
      where
        by : (o : Option Value) →
            value_among now_of (unwrap_or (option_map (λ value. put (home w (record { instance = i; path = path })) value store) o) store) b
            ≡ value_among now_of store b
        by None = refl
        by (Some value) = puts.now (home w (record { instance = i; path = path })) b value store (clear path)

    written_now : (paths : List Static) (store : Store) → value_among now_of (put_written w i values paths store) b ≡ value_among now_of store b
    written_now [] store = refl
    written_now (path ∷ paths) store = written_now paths (put_path w i values path store) ∙ path_now path store

-- ---- acts

-- what an act makes of the store, from what it leaves of the variables
pub record Leaves (w : Setting) (i : ℕ) (left store : Store) : Type 0 where
  pub result : result_at left i ≡ result_at store i
  pub now : (b : Location) → ((path : Static) → overlap (home w (record { instance = i; path = path })) b ≡ false) →
      value_among now_of left b ≡ value_among now_of store b

module _ (puts : PutsKeepOthers) (remembers : RememberingKeepsOthers) (w : Setting) (i : ℕ) (s : Stmt) (store : Store) where
  put_leaves : (values : List Value) → Leaves w i (put_written w i values (writes s) store) store
  put_leaves values = record {
    result = written_result puts w i values (writes s) store;
    now = λ b clear. written_now puts w i values b clear (writes s) store;
  }

  remembered_leaves : (k : ℕ) (values : List Value) → Leaves w i (with_frame i (remember k) (put_written w i values (writes s) store)) store
  remembered_leaves k values =
      let left = put_written w i values (writes s) store in
      let before = put_leaves values in
      record {
        result = remembers.results i k i left ∙ before.result;
        now = λ b clear. remembers.now i k b left ∙ before.now b clear;
      }

  left_by : (made : List Value → Store) → ((values : List Value) → Leaves w i (made values) store) → (o : Option (List Value)) (left : Store) →
      option_map done (option_map made o) ≡ Some (record { answer = true; store = left }) → Leaves w i left store
  left_by made each None left did = absurd (cc)
  left_by made each (Some values) left did =
      subst (λ left. Leaves w i left store)
      (ap (λ (p : Performed). p.store) (same_Some (done (made values)) (record { answer = true; store = left }) did)) (each values)

  act_leaves : (layer : StmtKind-F StmtKind Arm Branch Stmt) (left : Store) → is_act layer ≡ true →
      option_map done (acted_kind w i s layer store) ≡ Some (record { answer = true; store = left }) → Leaves w i left store
  act_leaves (StmtKind-F.Declare k initial) left act did =
      left_by (λ values. with_frame i (remember k) (put_written w i values (writes s) store)) (remembered_leaves k)
      (outcome_there w store i s) left did
  act_leaves (StmtKind-F.Assign path e) left act did =
      left_by (λ values. put_written w i values (writes s) store) put_leaves (outcome_there w store i s) left did
  act_leaves (StmtKind-F.Call f inputs outputs) left act did =
      left_by (λ values. put_written w i values (writes s) store) put_leaves (outcome_there w store i s) left did
  act_leaves (StmtKind-F.Await e) left act did = absurd (cc)
  act_leaves (StmtKind-F.Run target a inputs outputs) left act did = absurd (cc)
  act_leaves (StmtKind-F.If arms other) left act did = absurd (cc)
  act_leaves (StmtKind-F.Cobegin branches) left act did = absurd (cc)
  act_leaves (StmtKind-F.When guard e body) left act did = absurd (cc)
  act_leaves (StmtKind-F.Repeat body) left act did = absurd (cc)
  act_leaves (StmtKind-F.Until body e) left act did = absurd (cc)
  act_leaves (StmtKind-F.While e body) left act did = absurd (cc)
  act_leaves (StmtKind-F.Return e) left act did = absurd (cc)

-- ---- what is inside

-- an instance that an instance calls is inside it, and so is all inside that
pub inside_more : (w : Setting) (i j k : ℕ) (at : Place) → callee_of w i at ≡ Some j → Inside w j k → Inside w i k
inside_more w i j k at called nesting.itself = nesting.deeper i at nesting.itself called
inside_more w i j k at called (nesting.deeper p place deep more) = nesting.deeper p place (inside_more w i j p at called deep) more

pub nests_inside : (w : Setting) (activities : Activities) (i k : ℕ) (f m f' m' : CLocation) → Nests w activities i f m k f' m' → Inside w i k
nests_inside w activities i k f m f' m' memories.here = nesting.itself
nests_inside w activities i k f m f' m' (memories.inside {j = j} {l = l} {at = at} {arguments = arguments} there node called deeper) =
    let n = run_by w activities i at in
    inside_more w i j k at called (nests_inside w activities j k (inner f n) (inner m n) f' m' deeper)

-- the home of a variable that is no output is itself
pub own_home : (w : Setting) (k x : ℕ) → led w (whole_of k x) ≡ None → home w (whole_of k x) ≡ whole_of k x
own_home w k x none = by (depth_at w k)
  where
    by : (depth : ℕ) → home_within w depth (whole_of k x) ≡ whole_of k x
    by zero = refl
    by (suc depth) = ap (λ o. unwrap_or (option_map (home_within w depth) o) (whole_of k x)) none

module _ (structs : List StructDef) (units : List UnitDef) (entry : ℕ) (machine : List InMachine) (activities : Activities)
    (compiled : CompilationContext structs units entry machine activities) where
  abbrev w : Setting
  w = setting_of structs units entry

  module _ (k x : ℕ) (var : Var) (known : var_at (site_at w activities k) x ≡ Some var) (held : home_at (site_at w activities k) x ≡ Held) where
    -- a remembered variable is no output of its unit
    no_output : (instance : Instance) (unit : UnitDef) → slice_get w.instances k ≡ Some instance → slice_get units instance.unit ≡ Some unit →
        is_output_of unit x ≡ false
    no_output instance unit is there =
        let number_is : unit_number w k ≡ instance.unit =
        ap (λ o. unwrap_or (option_map (λ (instance : Instance). instance.unit) o) 0) is in
        let unit_is : (activities (unit_number w k)).unit ≡ unit =
        ap (λ k. (activities k).unit) number_is ∙ compiled.built.unit instance.unit unit there in
        held_inside structs units entry instance.unit x unit (site_at w activities k) var compiled.well_typed there
        (ap (λ (unit : UnitDef). slice_get unit.vars x) (sym unit_is) ∙ known)
        (sym (ap (home_of (site_at w activities k)) known) ∙ held)

    -- so it leads to no caller
    pub held_led : led w (whole_of k x) ≡ None
    held_led = by_instance (slice_get w.instances k) refl
      where
        by_unit : (instance : Instance) → slice_get w.instances k ≡ Some instance → (origin : Origin) (o : Option UnitDef) →
            unit_of w instance ≡ o →
            option_and_then (led_by (whole x) origin) o ≡ None
        by_unit instance is origin None there = refl
        by_unit instance is origin (Some unit) there =
            ap (λ b. if b
            then option_map (under origin.caller (whole x).fields) (slice_get origin.outputs ((whole x).root - unit.inputs))
            else None) (no_output instance unit is there)

        by_origin : (instance : Instance) → slice_get w.instances k ≡ Some instance → (o : Option Origin) →
            option_and_then (λ origin. option_and_then (led_by (whole x) origin) (unit_of w instance)) o ≡ None
        by_origin instance is None = refl
        by_origin instance is (Some origin) = by_unit instance is origin (unit_of w instance) refl

        by_instance : (o : Option Instance) → slice_get w.instances k ≡ o →
            option_and_then (λ instance. option_and_then (λ origin. option_and_then (led_by (whole x) origin) (unit_of w instance))
            instance.origin) o
            ≡ None
        by_instance None is = refl
        by_instance (Some instance) is = by_origin instance is instance.origin

    -- an act of an instance that calls what it is inside of leaves it
    pub kept_inside : (nest : InstancesNest structs units entry) (i j : ℕ) (at : Place) (store left : Store) → callee_of w i at ≡ Some j →
        Inside w j k →
        Leaves w i left store → slice_get (view_at w left k).now x ≡ slice_get (view_at w store k).now x
    kept_inside nest i j at store left called inside leaves =
        same_mapped (variable_among now_of w left k) (variable_among now_of w store k) (length (vars_at w k)) x
        (ap (λ o. unwrap_or o (Parts []))
        (ap (value_among now_of left) (own_home w k x held_led)
        ∙ (leaves.now (whole_of k x) clear ∙ ap (value_among now_of store) (sym (own_home w k x held_led)))))
      where
        clear : (path : Static) → overlap (home w (record { instance = i; path = path })) (whole_of k x) ≡ false
        clear path =
            ap (λ b. b && overlaps (home w (record { instance = i; path = path })).path (whole x))
            (number_test_swap (home w (record { instance = i; path = path })).instance k ∙ nest.hidden i j k at path called inside)

pub acts_leave_so : ProgramsNest → RememberingKeepsOthers → PutsKeepOthers → ActsLeave
acts_leave_so nests remembers puts structs units entry machine activities compiled own =
    let w = setting_of structs units entry in record {
      own = own;
      inner = λ i unit l s store left values acted at j k f m f' m' x var called nest known held.
          kept_inside structs units entry machine activities compiled k x var known held (nests structs units entry) i j at store left called
          (nests_inside w activities j k f m f' m' nest) (act_leaves puts remembers w i s store (stmt_kind s) left acted.act acted.done);
      result = λ i unit l s store left values acted.
          (act_leaves puts remembers w i s store (stmt_kind s) left acted.act acted.done).result;
    }
