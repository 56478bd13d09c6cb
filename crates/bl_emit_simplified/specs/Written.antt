-- What the C file that is written for a program is, seen from outside.
use Rattle.std.specs.Prelude.{◌≡◌, ◌↔◌, ◌≤◌, ℕ, ℤ, List, Some, slice_get}
use Rattle.bl_tree.specs.declared.tree.StructDef.{StructDef}
use Rattle.bl_tree.specs.declared.tree.Unit.{Unit as UnitDef}
use Rattle.bl_tree.specs.Ports.{RowsFit, input_columns, output_columns}
use Rattle.bl_ctree.specs.Means.{Means, ShownTrace, shown_trace}
use Rattle.bl_ctext_semantics.specs.Cells.{inputs_of, outputs_of}
use Rattle.bl_ctext_semantics.specs.Faults.{WellFormed}
use Rattle.bl_ctext_semantics.specs.Parts.{Parts}
use Rattle.bl_ctext_semantics.specs.Sizes.{cells_needed}
use Rattle.bl_ctext_semantics.specs.Trace.{c_trace}
use Rattle.bl_limits_measures.specs.Units.{cells_at}
use Rattle.bl_simplify.specs.Simplified.{IsSimplified}
use Rattle.bl_emit_laws.specs.Counters.Own.{FunctionsOwn}
use Rattle.bl_emit_laws.specs.Width.{EachFrameHasWidth}
use Rattle.bl_emit_file.specs.Merged.{HasMergedBlocks}

-- the C file that is written for the program with these structs, these units and this entry
pub record IsWrittenOf (structs : List StructDef) (units : List UnitDef) (entry : ℕ) (file : Parts) : Type 0 where
  pub unit : UnitDef
  pub is_entry : slice_get units entry ≡ Some unit
  -- the file is well formed
  pub well_formed : WellFormed file
  -- the file needs no more cells than rule Cells counts for the entry
  pub counted : cells_needed file ≤ cells_at structs units entry
  -- the file needs no more cells than can be loaded, and its inputs and outputs are those of the entry
  pub small : cells_needed file ≤ 1000000
  pub inputs : inputs_of file ≡ input_columns unit
  pub outputs : outputs_of file ≡ output_columns unit
  -- each activity that has an instance has one function and one struct in it, and no other function names its counters
  pub functions : FunctionsOwn structs units entry file
  -- the struct of each such activity has as many counters as the activity's width: the most places of it that can rest at once
  pub frames : EachFrameHasWidth structs units entry file
  -- the file is simplified: another one has the same trace, and needs no fewer cells and statements
  pub emitted : Parts
  pub simplified : IsSimplified emitted file
  -- in that one, the body of each such activity's function has as many `if`s as a machine with merged blocks has blocks for the activity
  pub blocks : HasMergedBlocks structs units entry emitted
  -- the semantics allows the trace of the file, and no other, over all rows that fit its inputs
  pub trace : (rows : List (List ℤ)) (shows : ShownTrace) → RowsFit (input_columns unit) rows →
      Means structs units entry rows shows ↔ (shows ≡ shown_trace (c_trace file rows))
