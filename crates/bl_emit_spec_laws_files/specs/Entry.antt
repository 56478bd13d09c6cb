-- Runs of the entry by the numbers that are in C.
use Rattle.std.specs.Prelude.{◌≡◌, ℕ, ℤ, List, Some}
use Rattle.bl_tree.specs.declared.tree.StructDef.{StructDef}
use Rattle.bl_tree.specs.declared.tree.Unit.{Unit as UnitDef}
use Rattle.bl_ctree.specs.Instances.{setting_of, unit_at}
use Rattle.bl_machine.specs.declared.machine.Activity.{Activity as InMachine}
use Rattle.bl_machine_pass_laws_execution.specs.Frames.{Frames}
use Rattle.bl_machine_pass_laws_execution.specs.Runs.{RowsFit, RunByRules}
use Rattle.bl_emit_spec_laws.specs.Calls.Built.{Activities, cleared, rank_by, slots_by}
use Rattle.bl_emit_spec_laws.specs.Calls.Laws.{CompilationContext}

-- over rows that fit there is a run by rules with the numbers that are in C, from frames in which the first counter of the entry holds 0
abbrev pub EntryRuns : Type 0
EntryRuns =
    (structs : List StructDef) (units : List UnitDef) (entry : ℕ) (machine : List InMachine) (activities : Activities) (unit : UnitDef)
    (rows : List (List ℤ)) (frames : Frames) → let w = setting_of structs units entry in
    CompilationContext structs units entry machine activities → unit_at w 0 ≡ Some unit → RowsFit unit rows → frames 0 0 ≡ 0 →
    RunByRules structs units entry (rank_by w activities) (slots_by w activities) (cleared w) unit rows frames
