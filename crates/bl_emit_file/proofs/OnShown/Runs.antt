-- Runs by rules where units are shown: they show the inputs too.
use Rattle.std.proofs.Common.{◌≡◌, ⊎_elim, ℕ, ℤ, zero, suc, ◌+◌, ◌<◌, ◌≤◌, arith, true, List, [], ◌∷◌, drop, map, take, Option, Some, None, refl, sym, ap, ap₂}
use Rattle.std.proofs.Common.{◌∙◌, subst}
use Rattle.std.specs.Prelude.{option_and_then, option_map, slice_get, unwrap_or}
use Rattle.bl_tree.proofs.Basics.{less_or_not}
use Rattle.bl_tree.specs.declared.row.Last.TheVariants.{Open, Ended as HasEnded, Trap as HasTrapped}
use Rattle.bl_tree.specs.declared.row.Trace.{Trace}
use Rattle.bl_tree.specs.declared.tree.StructDef.{StructDef}
use Rattle.bl_tree.specs.declared.tree.Unit.{Unit as UnitDef}
use Rattle.bl_tree.specs.declared.tree.Var.{Var}
use Rattle.bl_tree.specs.declared.value.Value.{Value}
use Rattle.bl_tree.specs.Typing.{is_activity}
use Rattle.bl_eval.specs.Values.{zero_of}
use Rattle.bl_limits_measures.specs.Uses.{UsesEarlier}
use Rattle.bl_graph_nodes.specs.Plain.{plain_body}
use Rattle.bl_ctree.specs.declared.instance.Instance.{Instance}
use Rattle.bl_ctree.specs.Instances.{Setting, callee_of, expanded, instances_below, instances_of, runs_of, setting_of, unit_at, unit_of}
use Rattle.bl_ctree.specs.Store.{Frame, Store, first_frame, first_store, frame_at_first, number_or_zero, outputs_of_frame, outputs_row, view_at, woken_store, zero_result}
use Rattle.bl_ctree_laws_confluence.specs.Deeds.Origins.{InstancesHaveCallers}
use Rattle.bl_machine.specs.declared.machine.Activity.{Activity as InMachine}
use Rattle.bl_machine_laws.specs.Traces.Runs.{no_row, row_before}
use Rattle.bl_machine_pass.specs.Registers.{Registers, started}
use Rattle.bl_machine_pass_laws.specs.Turns.Laws.{entry_flag}
use Rattle.bl_machine_pass_laws_execution.specs.Executes.{Executes, PassTraps}
use Rattle.bl_machine_pass_laws_execution.specs.Frames.{Frames}
use Rattle.bl_machine_pass_laws_execution.specs.Runs.{RuleRun, TickStarts}
use Rattle.bl_emit_spec.proofs.LentLemmas.{drop_none, lent_mapped}
use Rattle.bl_emit_spec.specs.Activities.{activity_view}
use Rattle.bl_emit_spec.specs.Lent.{lent_unit}
use Rattle.bl_emit_spec_laws.specs.Calls.Built.{Activities, cleared, rank_by, slots_by, unit_number}
use Rattle.bl_emit_spec_laws.specs.Tables.Tables.{activities_of}
use Rattle.bl_emit_spec_laws_files.specs.Files.{behind_columns}
use Rattle.bl_emit_file.proofs.OnShown.Deeds.{deeds_same}
use Rattle.bl_emit_file.proofs.OnShown.Instances as instances
use Rattle.bl_emit_file.proofs.OnShown.Instances.{low}
use Rattle.bl_emit_file.proofs.OnShown.Machines.{machine_of}
use Rattle.bl_emit_file.proofs.OnShown.Numbers.{order_same, slots_same}
use Rattle.bl_emit_file.proofs.OnShown.Passes.{DoSame, executed, pass_traps}
use Rattle.bl_emit_file.proofs.OnShown.Units.{Shown, same_body, shown_before, shown_entry}

-- ---- lists

map_at : {A B : Type 0} (f g : A → B) (xs : List A) → ((k : ℕ) (x : A) → slice_get xs k ≡ Some x → f x ≡ g x) → map f xs ≡ map g xs
map_at f g [] each = refl
map_at {B = B} f g (x ∷ xs) each = ap₂ (λ (y : B) (ys : List B). y ∷ ys) (each 0 x refl) (map_at f g xs (λ k. each (suc k)))

drop_mapped : {A B : Type 0} (f : A → B) (n : ℕ) (xs : List A) → drop n (map f xs) ≡ map f (drop n xs)
drop_mapped f zero xs = drop_none (map f xs) ∙ ap (map f) (sym (drop_none xs))
drop_mapped f (suc n) [] = refl
drop_mapped f (suc n) (x ∷ xs) = drop_mapped f n xs

taken_none : {A : Type 0} (m : ℕ) → take {A = A} m [] ≡ []
taken_none zero = refl
taken_none (suc m) = refl

drop_taken : {A : Type 0} (n m : ℕ) (xs : List A) → drop n (take (n + m) xs) ≡ take m (drop n xs)
drop_taken zero m xs =
    let none : 0 + m ≡ m = omega arith in
    drop_none (take (0 + m) xs) ∙ ap (λ k. take k xs) none ∙ ap (take m) (sym (drop_none xs))
drop_taken (suc n) m [] =
    let more : suc n + m ≡ suc (n + m) = omega arith in ap (λ k. drop (suc n) (take k [])) more ∙ sym (taken_none m)
drop_taken (suc n) m (x ∷ xs) =
    let more : suc n + m ≡ suc (n + m) = omega arith in ap (λ k. drop (suc n) (take k (x ∷ xs))) more ∙ drop_taken n m xs

-- ---- the entry

abbrev root : ℕ → Instance
root entry = record { unit = entry; depth = 0; origin = None }

-- the entry is the unit of the first instance
pub entry_is : (structs : List StructDef) (units : List UnitDef) (entry : ℕ) (unit : UnitDef) → slice_get units entry ≡ Some unit →
    unit_at (setting_of structs units entry) 0 ≡ Some unit
entry_is structs units entry unit there =
    let one : entry + 1 ≡ suc entry = omega arith in
    let first : slice_get (setting_of structs units entry).instances 0 ≡ Some (root entry) =
    ap (λ n. slice_get (expanded units n entry) 0) one
    ∙ ap (λ (o : Option UnitDef). slice_get (unwrap_or (option_map (λ (unit : UnitDef). root entry
    ∷ instances_below (expanded units entry) 1 (runs_of unit)) o) []) 0) there in
    ap (option_and_then (unit_of (setting_of structs units entry))) first ∙ there

module _ (structs : List StructDef) (units : List UnitDef) (entry : ℕ) (unit : UnitDef) (there : slice_get units entry ≡ Some unit)
    (active : is_activity unit.kind ≡ true) (shown : List UnitDef) (are : Shown units entry shown) (uses : UsesEarlier units)
    (callers : InstancesHaveCallers) (machine : List InMachine) where
  abbrev W : Setting
  W = setting_of structs units entry

  abbrev W' : Setting
  W' = setting_of structs shown entry

  abbrev A : Activities
  A = activities_of structs units machine

  abbrev A' : Activities
  A' = activities_of structs shown (machine_of shown machine)

  -- ---- numbers

  number_few : (i : ℕ) → unit_number W i ≤ entry
  number_few i = by (slice_get (instances_of units entry) i) refl
    where
      by : (o : Option Instance) → slice_get (instances_of units entry) i ≡ o →
          unwrap_or (option_map (λ (instance : Instance). instance.unit) (slice_get (instances_of units entry) i)) 0 ≤ entry
      by None is = subst (λ o. unwrap_or (option_map (λ (instance : Instance). instance.unit) o) 0 ≤ entry) (sym is) (let it : 0 ≤ entry = omega arith in it)
      by (Some instance) is =
          subst (λ o. unwrap_or (option_map (λ (instance : Instance). instance.unit) o) 0 ≤ entry) (sym is)
          (low structs units entry unit there shown are uses callers i instance is).few

  number_is : (i : ℕ) → unit_number W' i ≡ unit_number W i
  number_is = instances.number_same structs units entry unit there shown are uses callers

  rank_is : (i : ℕ) → rank_by W' A' i ≡ rank_by W A i
  rank_is i =
      ap (λ k. (activity_view (A' k)).number) (number_is i)
      ∙ (λ j n. order_same structs units shown entry are unit there active machine (unit_number W i) (number_few i) n j)

  slots_is : (i : ℕ) → slots_by W' A' i ≡ slots_by W A i
  slots_is i = ap (λ k. (A' k).slots) (number_is i) ∙ slots_same structs units shown entry are unit there active machine (unit_number W i) (number_few i)

  do_same : DoSame W W' (rank_by W A) (rank_by W' A') (slots_by W A) (slots_by W' A')
  do_same = record {
    deeds = deeds_same structs units entry unit there shown are uses callers;
    callees = λ i at. ap (λ all. callee_of (record { structs = structs; units = units; instances = all }) i at)
        (instances.instances_same structs units entry unit there shown are uses callers);
    views = instances.view_same structs units entry unit there shown are uses callers;
    units = λ i one is. let found = instances.unit_shown structs units entry unit there shown are uses callers i one is in
        (found.0, found.1, record { body = same_body found.2; numbers = rank_is i; places = slots_is i });
  }

  -- ---- the first store

  frame_same : (i : ℕ) (instance : Instance) → slice_get (instances_of units entry) i ≡ Some instance → frame_at_first W' instance ≡ frame_at_first W instance
  frame_same i instance is = ⊎_elim before at_entry (less_or_not instance.unit entry)
    where
      first : Option UnitDef → Frame
      first o = unwrap_or (option_map (first_frame structs) o) (record { now = []; before = []; result = None })

      lent_first : first_frame structs (lent_unit unit) ≡ first_frame structs unit
      lent_first =
          λ j. let zeros = lent_mapped (λ (var : Var). zero_of structs var.ty) (λ var. refl) unit.vars j in
          record { now = zeros; before = zeros; result = zero_result unit.result }

      before : instance.unit < entry → frame_at_first W' instance ≡ frame_at_first W instance
      before less = ap first (shown_before are instance.unit less)

      at_entry : entry ≤ instance.unit → frame_at_first W' instance ≡ frame_at_first W instance
      at_entry more =
          let few = (low structs units entry unit there shown are uses callers i instance is).few in
          let same : instance.unit ≡ entry = omega (arith, few, more) in
          ap first (ap (slice_get shown) same ∙ shown_entry are unit there) ∙ lent_first ∙ sym (ap first (ap (slice_get units) same ∙ there))

  pub first_same : first_store W' ≡ first_store W
  first_same =
      ap (map (frame_at_first W')) (instances.instances_same structs units entry unit there shown are uses callers)
      ∙ map_at (frame_at_first W') (frame_at_first W) (instances_of units entry) frame_same

  -- ---- rows

  at_first : unit_at W 0 ≡ Some unit
  at_first = entry_is structs units entry unit there

  at_shown : unit_at W' 0 ≡ Some (lent_unit unit)
  at_shown = entry_is structs shown entry (lent_unit unit) (shown_entry are unit there)

  abbrev row_of : UnitDef → Store → List ℤ
  row_of one left = unwrap_or (option_map (outputs_of_frame one) (slice_get left 0)) []

  row_at : (w : Setting) (one : UnitDef) (left : Store) → unit_at w 0 ≡ Some one → outputs_row w left ≡ row_of one left
  row_at w one left at = ap (λ o. unwrap_or (option_and_then (λ (unit : UnitDef). option_map (outputs_of_frame unit) (slice_get left 0)) o) []) at

  frame_row : (frame : Frame) → drop unit.inputs (outputs_of_frame (lent_unit unit) frame) ≡ outputs_of_frame unit frame
  frame_row frame =
      drop_mapped number_or_zero unit.inputs (take (unit.inputs + unit.outputs) (drop 0 frame.now))
      ∙ ap (λ (now : List Value). map number_or_zero (drop unit.inputs (take (unit.inputs + unit.outputs) now)))
      (drop_none frame.now)
      ∙ ap (map number_or_zero) (drop_taken unit.inputs unit.outputs frame.now)

  dropped_none : (n : ℕ) → drop {A = ℤ} n [] ≡ []
  dropped_none zero = refl
  dropped_none (suc n) = refl

  row_same : (left : Store) → drop unit.inputs (outputs_row W' left) ≡ outputs_row W left
  row_same left =
      ap (drop unit.inputs) (row_at W' (lent_unit unit) left at_shown) ∙ by (slice_get left 0) ∙ sym (row_at W unit left at_first)
    where
      by : (o : Option Frame) → drop unit.inputs (unwrap_or (option_map (outputs_of_frame (lent_unit unit)) o) [])
          ≡ unwrap_or (option_map (outputs_of_frame unit) o) []
      by None = dropped_none unit.inputs
      by (Some frame) = frame_row frame

  -- ---- runs

  abbrev clear : ℕ → Frames → Frames
  clear = cleared W

  pub record ShownRun (rows : List (List ℤ)) (frames : Frames) (store : Store) (trace : Trace) : Type 0 where
    pub shows : Trace
    pub run : RuleRun W' (rank_by W' A') (slots_by W' A') clear (lent_unit unit) rows frames store shows
    pub same : behind_columns unit.inputs shows ≡ trace

  starts : (frames : Frames) (r : Registers) → TickStarts (rank_by W A) unit frames r → TickStarts (rank_by W' A') (lent_unit unit) frames r
  starts frames _ (TickStarts.begins is) =
      subst (λ r. TickStarts (rank_by W' A') (lent_unit unit) frames r)
      (ap (λ number. started (λ k. 0)
      (entry_flag number (plain_body unit.body))) (rank_is 0))
      (TickStarts.begins is)
  starts frames _ (TickStarts.goes_on stands) = TickStarts.goes_on stands

  view_is : (store : Store) → (view_at W store 0).now ≡ (view_at W' store 0).now
  view_is store = ap (λ view. view.now) (sym (instances.view_same structs units entry unit there shown are uses callers store 0))

  here : (frames : Frames) (store : Store) (r : Registers) (inner : Frames) (left : Store) (r' : Registers) →
      Executes W (rank_by W A) (slots_by W A) clear 0 0 frames store (view_at W store 0).now r inner left r' →
      Executes W' (rank_by W' A') (slots_by W' A') clear 0 0 frames store (view_at W' store 0).now r inner left r'
  here frames store r inner left r' runs =
      subst (λ now. Executes W' (rank_by W' A') (slots_by W' A') clear 0 0 frames store now r inner left r') (view_is store)
      (executed W W' (rank_by W A) (rank_by W' A') (slots_by W A) (slots_by W' A') clear do_same runs)

  traps_here : (frames : Frames) (store : Store) (r : Registers) →
      PassTraps W (rank_by W A) (slots_by W A) clear 0 0 frames store (view_at W store 0).now r →
      PassTraps W' (rank_by W' A') (slots_by W' A') clear 0 0 frames store (view_at W' store 0).now r
  traps_here frames store r runs =
      subst (λ now. PassTraps W' (rank_by W' A') (slots_by W' A') clear 0 0 frames store now r) (view_is store)
      (pass_traps W W' (rank_by W A) (rank_by W' A') (slots_by W A) (slots_by W' A') clear do_same runs)

  shown_run : {rows : List (List ℤ)} {frames : Frames} {store : Store} {trace : Trace} →
      RuleRun W (rank_by W A) (slots_by W A) clear unit rows frames store trace → ShownRun rows frames store trace
  shown_run (RuleRun.stays_open) = record { shows = no_row Open; run = RuleRun.stays_open; same = refl }
  shown_run {frames = frames} {store = store} (RuleRun.traps {row} {r} begin fails) = record {
    shows = no_row HasTrapped;
    run = RuleRun.traps (starts frames r begin) (traps_here frames (woken_store row store) r fails);
    same = refl;
  }
  shown_run {frames = frames} {store = store} (RuleRun.ends {row} {r} {inner} {left} {r'} begin runs over) = record {
    shows = row_before (outputs_row W' left) (no_row HasEnded);
    run = RuleRun.ends (starts frames r begin) (here frames (woken_store row store) r inner left r' runs) over;
    same = ap (λ row. row_before row (no_row HasEnded)) (row_same left);
  }
  shown_run {frames = frames} {store = store} (RuleRun.lasts {row} {r} {inner} {left} {r'} begin runs over some more) =
      let rest = shown_run more in record {
        shows = row_before (outputs_row W' left) rest.shows;
        run = RuleRun.lasts (starts frames r begin) (here frames (woken_store row store) r inner left r' runs) over some rest.run;
        same = ap₂ (λ row rest. row_before row rest) (row_same left) rest.same;
      }

  -- with what the shown units clear
  pub run_is_shown : (rows : List (List ℤ)) (frames : Frames) (trace : Trace) →
      RuleRun W (rank_by W A) (slots_by W A) (cleared W) unit rows frames (first_store W) trace →
      (shows : Trace) × (RuleRun W' (rank_by W' A') (slots_by W' A') (cleared W') (lent_unit unit) rows frames (first_store W') shows)
      × (behind_columns unit.inputs shows ≡ trace)
  run_is_shown rows frames trace run =
      let it = shown_run run in (
        it.shows,
        subst (λ store. RuleRun W' (rank_by W' A') (slots_by W' A') (cleared W') (lent_unit unit) rows frames store it.shows) (sym first_same)
            (subst (λ c. RuleRun W' (rank_by W' A') (slots_by W' A') c (lent_unit unit) rows frames (first_store W) it.shows)
            (sym (instances.cleared_same structs units entry unit there shown are uses callers)) it.run),
        it.same,
      )
