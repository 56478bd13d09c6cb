-- The frame of each activity has as many counters as its width.
use Rattle.std.proofs.Common.{◌≡◌, ℕ, ◌<◌, ◌^◌, true, List, Some, length, sym, ap, subst, ◌∙◌}
use Rattle.std.proofs.lemmas.Bool.{lt-ltb}
use Rattle.std.specs.Prelude.{slice_get}
use Rattle.bl_tree.proofs.Basics.{same_some}
use Rattle.bl_tree.specs.declared.program.Program.{Program}
use Rattle.bl_tree.specs.declared.tree.Stmt.{Stmt}
use Rattle.bl_tree.specs.declared.tree.Unit.{Unit as UnitDef}
use Rattle.bl_tree.specs.Typing.{is_activity}
use Rattle.bl_effects.specs.Surface.{width}
use Rattle.bl_graph_nodes.specs.Plain.{plain_body}
use Rattle.bl_cause.proofs.PairLemmas.{each_at, filtered_at}
use Rattle.bl_cause.specs.Activities.{activities as activities_among, graph_position}
use Rattle.bl_ctree.specs.Instances.{Setting, setting_of, unit_at}
use Rattle.bl_ctree_laws_confluence.specs.Deeds.Orderly.{AcceptedIsOrderly}
use Rattle.bl_machine.specs.declared.machine.Activity.{Activity as InMachine}
use Rattle.bl_machine.specs.Layout.{counters_in}
use Rattle.bl_machine.specs.Machines.{IsActivityOf}
use Rattle.bl_machine_laws.specs.Numbers.Width.{TakesItsWidth}
use Rattle.bl_emit_spec.specs.Activities.{frame_struct}
use Rattle.bl_emit_spec.specs.Names.{frame_name}
use Rattle.bl_emit_spec_laws.specs.Calls.Built.{Activities, MadeOf, unit_number}
use Rattle.bl_emit_spec_laws.specs.Calls.Laws.{CompilationContext}
use Rattle.bl_emit_laws.specs.Kept.{FramesAreDeclared, activities_in, shown_file}
use Rattle.bl_emit_laws.specs.Width.{FrameHasWidth, FramesHaveWidth}
use Rattle.bl_emit_laws.proofs.OnWidth.Counting.{frame_counts, sizes_wide}
use Rattle.bl_emit_spec_laws.proofs.OnActivities.Nested.{unit_there}
use Rattle.bl_emit_spec.specs.Lent.{lent_unit}

module _ (program : Program) (orderly : AcceptedIsOrderly) (wide : (body : List Stmt) → TakesItsWidth body) (declares : FramesAreDeclared program)
    (machine : List InMachine) (ports : UnitDef) (entry_is : slice_get program.units program.entry ≡ Some (lent_unit ports)) (i : ℕ) (unit : UnitDef)
    (compiled : CompilationContext program.structs program.units program.entry machine (activities_in program machine))
    (is : unit_at (setting_of program.structs program.units program.entry) i ≡ Some unit)
  where
    abbrev w : Setting
    w = setting_of program.structs program.units program.entry

    abbrev k : ℕ
    k = unit_number w i

    abbrev activities : Activities
    activities = activities_in program machine

    there : slice_get program.units k ≡ Some unit
    there = unit_there w i unit is

    active : is_activity unit.kind ≡ true
    active = ((orderly program.structs program.units program.entry compiled.well_typed compiled.passes).each i unit is).activity

    made : MadeOf unit (activities k) (slice_get machine (graph_position program.units k))
    made = compiled.built.made k unit there active

    own : IsActivityOf unit made.one
    own =
        let among = filtered_at (λ (it : UnitDef). is_activity it.kind) program.units k unit there active in
        let found = each_at IsActivityOf (activities_among program.units) machine (graph_position program.units k) unit compiled.agrees among in
        subst (IsActivityOf unit) (same_some found.0 made.one (sym found.1 ∙ made.is)) found.2

    many : length (activities k).sizes ≡ width unit.body
    many =
        ap length made.sizes
        ∙ sizes_wide made.one.slots (counters_in (plain_body unit.body) 0) (width unit.body) own.slots (wide unit.body).below (wide unit.body).each

    small : (c : ℕ) → c < length (activities k).sizes → c < 2 ^ 64
    small c less = (compiled.registers k unit there active).counters c (lt-ltb c (length (activities k).sizes) less)

    pub has_frame : FrameHasWidth (shown_file program ports machine) unit
    has_frame = record {
      frame = frame_struct (activities k);
      there = (declares machine ports compiled.well_typed compiled.passes compiled.agrees entry_is).frames i unit is;
      named = ap (λ (u : UnitDef). frame_name u.name) (compiled.built.unit k unit there);
      counters = frame_counts (activities k) small ∙ many;
    }

pub frames_wide : (program : Program) → AcceptedIsOrderly → ((body : List Stmt) → TakesItsWidth body) → FramesAreDeclared program →
    FramesHaveWidth program
frames_wide program orderly wide declares machine ports compiled entry_is i unit is =
    has_frame program orderly wide declares machine ports entry_is i unit compiled is
