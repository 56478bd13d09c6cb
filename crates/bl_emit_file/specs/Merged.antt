-- Files that are written of machines whose blocks are merged.
use Rattle.std.specs.Prelude.{◌≡◌, ℕ, List}
use Rattle.bl_tree.specs.declared.program.Program.{Program}
use Rattle.bl_tree.specs.declared.tree.StructDef.{StructDef}
use Rattle.bl_tree.specs.declared.tree.Unit.{Unit as UnitDef}
use Rattle.bl_block.specs.Merged.{NothingLeft}
use Rattle.bl_cause.specs.Activities.{EachTwo, activities}
use Rattle.bl_ctext_semantics.specs.Parts.{Parts}
use Rattle.bl_machine.specs.declared.machine.Activity.{Activity}
use Rattle.bl_machine.specs.Machines.{AreActivitiesOf}
use Rattle.bl_graph_nodes.specs.Plain.{plain_body}
use Rattle.bl_emit_laws.specs.Counters.Ifs.{EachFunctionHasIfs}
use Rattle.bl_emit_laws.specs.Kept.{written_file}

-- no two neighbouring blocks of the activity could be one
abbrev pub IsMerged : UnitDef → Activity → Type 0
IsMerged unit activity = NothingLeft (plain_body unit.body) activity.blocks

-- the blocks of each activity of the machine are merged: no two neighbours could be one
abbrev pub AreMerged : List UnitDef → List Activity → Type 0
AreMerged units machine = EachTwo IsMerged (activities units) machine

-- the file is what is written of a machine of the program whose blocks are merged
pub record IsOfMerged (program : Program) (file : Parts) : Type 0 where
  pub machine : List Activity
  pub agrees : AreActivitiesOf program.units machine
  pub merged : AreMerged program.units machine
  pub is : file ≡ written_file program machine

-- a machine of the program has merged blocks. The function of each activity with an instance has as many `if`s directly in its body as the machine has
-- blocks, and one flag for each block whose first node waits by its flag
pub record HasMergedBlocks (structs : List StructDef) (units : List UnitDef) (entry : ℕ) (file : Parts) : Type 0 where
  pub machine : List Activity
  pub agrees : AreActivitiesOf units machine
  pub merged : AreMerged units machine
  pub each : EachFunctionHasIfs structs units entry machine file
