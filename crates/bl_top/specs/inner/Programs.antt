-- The program of a tree, on its way to what is written.
use Rattle.std.specs.Prelude.{ℕ, List}
use Rattle.bl_ctext_semantics.specs.Faults.{WellFormed}
use Rattle.bl_ctext_semantics.specs.Parts.{Parts, parts_of}
use Rattle.bl_ctext_semantics_laws_places.specs.Behaviour.{behaviour_of}
use Rattle.bl_top_commands.specs.Traces.{OneTrace}
use Rattle.bl_ctext.specs.declared.file.CFile.{CFile}
use Rattle.bl_emit_file.specs.Merged.{HasMergedBlocks}
use Rattle.bl_emit_laws.specs.Counters.Own.{FunctionsOwn}
use Rattle.bl_emit_laws.specs.Width.{EachFrameHasWidth}
use Rattle.bl_simplify.specs.Simplified.{IsSimplified}
use Rattle.bl_tree.specs.declared.tree.StructDef.{StructDef}
use Rattle.bl_tree.specs.declared.tree.Unit.{Unit as UnitDef}

-- the C file is well formed and has the one trace of a program. Each activity with an instance has one function in it, which alone names its counters. There
-- are as many counters as the activity's width. The file is simplified: in the one that it is made of, the function's body has as many `if`s as a machine of
-- the peeled program with merged blocks has blocks
pub record IsFileOfProgram (structs : List StructDef) (units : List UnitDef) (entry : ℕ) (file : CFile) : Type 0 where
  pub well_formed : WellFormed (parts_of file)
  pub one_trace : OneTrace structs units entry (behaviour_of (parts_of file))
  pub functions : FunctionsOwn structs one_trace.peeled entry (parts_of file)
  pub frames : EachFrameHasWidth structs one_trace.peeled entry (parts_of file)
  pub emitted : Parts
  pub simplified : IsSimplified emitted (parts_of file)
  pub blocks : HasMergedBlocks structs one_trace.peeled entry emitted
