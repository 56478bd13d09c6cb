-- Passes by rules leave each counter within the values that it may have.
use Rattle.std.proofs.Common.{◌≡◌, inl, inr, ℕ, ◌≤◌, Bool, true, false, List, Some, nat_eq, refl, sym, subst, eqb-true}
use Rattle.std.proofs.Common.{if◌then◌else◌}
use Rattle.std.specs.Prelude.{slice_get}
use Rattle.bl_tree.specs.declared.tree.StructDef.{StructDef}
use Rattle.bl_tree.specs.declared.tree.Unit.{Unit as UnitDef}
use Rattle.bl_tree.specs.declared.value.Value.{Value}
use Rattle.bl_graph_nodes.specs.Nodes.{Node}
use Rattle.bl_ctree.specs.Instances.{Setting, setting_of, unit_at}
use Rattle.bl_ctree.specs.Store.{Store, depth_at}
use Rattle.bl_ctree_laws_confluence.specs.Deeds.Orderly.{AcceptedIsOrderly}
use Rattle.bl_machine.specs.declared.machine.Activity.{Activity as InMachine}
use Rattle.bl_machine.specs.Uses.{Slots}
use Rattle.bl_machine_pass.specs.Registers.{Registers, after_rule, with_at}
use Rattle.bl_machine_pass.specs.Transitions.{Transition}
use Rattle.bl_machine_pass_laws.specs.Spots.{SpotsDiffer}
use Rattle.bl_machine_pass_laws_execution.specs.Executes as executes
use Rattle.bl_machine_pass_laws_execution.specs.Executes.{Executes, HasRule, Performs, begun_registers, resumed_registers}
use Rattle.bl_machine_pass_laws_execution.specs.Frames.{Frames}
use Rattle.bl_emit_spec.specs.Blocks.{Sizes, greatest_value}
use Rattle.bl_emit_spec_laws.specs.Calls.Built.{Activities, activity_at, cleared, is_under, rank_by, slots_by, unit_number}
use Rattle.bl_emit_spec_laws.specs.Calls.Calls.{FramesWithin, PassStarts}
use Rattle.bl_emit_spec_laws.specs.Calls.Laws.{CompilationContext}
use Rattle.bl_emit_spec_laws.specs.Own.{BuiltAt}
use Rattle.bl_emit_spec_laws.specs.Registers.Laws.{RegistersWithin}
use Rattle.bl_emit_spec_laws.specs.Within.{AllStayWithin, PassesStayWithin}
use Rattle.bl_emit_spec_laws.proofs.OnActivities.Nested.{unit_there}
use Rattle.bl_emit_spec_laws.proofs.OnOwn.Programs.{unit_within}
use Rattle.bl_emit_spec_laws.proofs.OnWithin.Changing.{changes_within, none_within}

-- ---- frames

module _ (w : Setting) (activities : Activities) where
  abbrev sizes_at : ℕ → Sizes
  sizes_at i = (activity_at w activities i).sizes

  -- another frame of one instance
  pub frame_within : (callee : ℕ) (counters : ℕ → ℕ) (frames : Frames) → ((c : ℕ) → counters c ≤ greatest_value (sizes_at callee) c) →
      FramesWithin w activities frames → FramesWithin w activities (with_at callee counters frames)
  frame_within callee counters frames own all i c = by (nat_eq i callee) refl
    where
      by : (b : Bool) → nat_eq i callee ≡ b → (if b then counters else frames i) c ≤ greatest_value (sizes_at i) c
      by true is = subst (λ (k : ℕ). counters c ≤ greatest_value (sizes_at k) c) (sym (eqb-true i callee is)) (own c)
      by false is = all i c

  -- cleared ones
  pub clear_within : (j : ℕ) (frames : Frames) → FramesWithin w activities frames → FramesWithin w activities (cleared w j frames)
  clear_within j frames all i c = by (is_under w (depth_at w i) j i)
    where
      by : (b : Bool) → (if b then 0 else frames i c) ≤ greatest_value (sizes_at i) c
      by true = none_within (sizes_at i) c
      by false = all i c

  -- ---- registers as a pass begins

  pub begun_within : (i : ℕ) (unit : UnitDef) → RegistersWithin (sizes_at i) (begun_registers (rank_by w activities) i unit)
  begun_within i unit = record { counters = none_within (sizes_at i); rested = none_within (sizes_at i) }

  pub resumed_within : (i : ℕ) (frames : Frames) → FramesWithin w activities frames → RegistersWithin (sizes_at i) (resumed_registers frames i)
  resumed_within i frames all = record { counters = all i; rested = all i }

  pub starts_within : (i : ℕ) (unit : UnitDef) (frames : Frames) (r : Registers) → FramesWithin w activities frames →
      PassStarts w activities i unit frames r → RegistersWithin (sizes_at i) r
  starts_within i unit frames r all (inl begun) = subst (RegistersWithin (sizes_at i)) (sym begun.0) (begun_within i unit)
  starts_within i unit frames r all (inr resumed) = subst (RegistersWithin (sizes_at i)) (sym resumed.0) (resumed_within i frames all)

-- ---- passes

module _ (orderly : AcceptedIsOrderly) (spots : SpotsDiffer) (structs : List StructDef) (units : List UnitDef) (entry : ℕ)
    (machine : List InMachine) (activities : Activities) where
  abbrev W : Setting
  W = setting_of structs units entry

  abbrev R : ℕ → Node → ℕ
  R = rank_by W activities

  abbrev S : ℕ → Slots
  S = slots_by W activities

  abbrev C : ℕ → Frames → Frames
  C = cleared W

  abbrev Held : Frames → Type 0
  Held = FramesWithin W activities

  abbrev Own : ℕ → Registers → Type 0
  Own i = RegistersWithin (activity_at W activities i).sizes

  rule_within : CompilationContext structs units entry machine activities → (i : ℕ) (unit : UnitDef) (rule : Transition) (answer : Bool) (r : Registers) →
      unit_at W i ≡ Some unit → HasRule S i unit rule → Own i r → Own i (after_rule (R i) rule answer r)
  rule_within compiled i unit rule answer r is has within = by answer
    where
      there : slice_get units (unit_number W i) ≡ Some unit
      there = unit_there W i unit is

      built : BuiltAt structs units machine activities (unit_number W i) unit
      built = record {
        agrees = compiled.agrees;
        built = compiled.built;
        is_there = there;
        activity = ((orderly structs units entry compiled.well_typed compiled.passes).each i unit is).activity;
      }

      by : (b : Bool) → Own i (after_rule (R i) rule b r)
      by true =
          changes_within (activity_at W activities i).sizes (R i) rule.on_true r
          (unit_within spots structs units machine activities (unit_number W i) unit built rule has).0 within
      by false =
          changes_within (activity_at W activities i).sizes (R i) rule.on_false r
          (unit_within spots structs units machine activities (unit_number W i) unit built rule has).1 within

  module _ (compiled : CompilationContext structs units entry machine activities) where
    mutual
      pass_within : {i k : ℕ} {frames : Frames} {store : Store} {copies : List Value} {r : Registers} {frames' : Frames} {left : Store}
          {r' : Registers} → Executes W R S C i k frames store copies r frames' left r' → Held frames → Own i r → Held frames' × Own i r'
      pass_within (executes.ends is all) held own = (held, own)
      pass_within (executes.skips is none rest) held own = pass_within rest held own
      pass_within (executes.acts {i = i} {r = r} {answer = answer} {unit = unit} is rule has numbered due alone sees performs rest) held own =
          pass_within rest (turn_within performs held) (rule_within compiled i unit rule answer r is has own)

      turn_within : {i : ℕ} {n : Node} {frames : Frames} {store : Store} {answer : Bool} {frames' : Frames} {left : Store} →
          Performs W R S C i n frames store answer frames' left → Held frames → Held frames'
      turn_within (executes.does point does) held = held
      turn_within (executes.enters {frames = frames} {frames' = frames'} {r' = r'} {callee = callee} {unit = unit} called of does pass over) held =
          let after = pass_within pass (clear_within W activities callee frames held) (begun_within W activities callee unit) in
          frame_within W activities callee r'.counters frames' after.1.counters after.0
      turn_within (executes.resumes {frames = frames} {frames' = frames'} {r' = r'} {callee = callee} called runs does pass over) held =
          let after = pass_within pass held (resumed_within W activities callee frames held) in
          frame_within W activities callee r'.counters frames' after.1.counters after.0
      turn_within (executes.returns {frames = frames} {frames' = frames'} {r' = r'} {callee = callee} called runs does pass over gives) held =
          let after = pass_within pass held (resumed_within W activities callee frames held) in
          frame_within W activities callee r'.counters frames' after.1.counters after.0

  stays : PassesStayWithin structs units entry machine activities
  stays = record {
    changes = λ i unit rule answer r compiled is has within. rule_within compiled i unit rule answer r is has within;
    performs = λ i n frames store answer frames' left compiled held performs. turn_within compiled performs held;
    executes = λ i k frames store copies r frames' left r' compiled held own pass. pass_within compiled pass held own;
    begun = begun_within W activities;
    resumed = resumed_within W activities;
    cleared_within = clear_within W activities;
  }

pub all_stay : AcceptedIsOrderly → SpotsDiffer → AllStayWithin
all_stay orderly spots structs units entry machine activities = stays orderly spots structs units entry machine activities
