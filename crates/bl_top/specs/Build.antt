-- How `build` ends.
use Rattle.std.specs.Prelude.{ℕ, List, Option}
use Rattle.bl_ctext_semantics.specs.Parts.{Parts, parts_of}
use Rattle.bl_top_commands.specs.Calls.{Call}
use Rattle.bl_top_commands.specs.Notes.{line_of}
use Rattle.bl_top_commands.specs.Refusals.{IsNotAccepted}
use Rattle.bl_top_commands.specs.Results.{WritesResult}
use Rattle.bl_top_commands.specs.declared.status.Status.{Status}
use Rattle.bl_top_commands.specs.Sources.{IsTextOfProgram, IsRawTreeOf}
use Rattle.bl_emit_file.specs.Merged.{HasMergedBlocks}
use Rattle.bl_emit_laws.specs.Counters.Own.{FunctionsOwn}
use Rattle.bl_emit_laws.specs.Width.{EachFrameHasWidth}
use Rattle.bl_simplify.specs.Simplified.{IsSimplified}
use Rattle.bl_io.specs.Left.{IsKept}
use Rattle.bl_types_program.specs.Programs.{typed_of}
use Rattle.bl_parse_tree.specs.declared.raw.Raw.{Raw}
use Rattle.bl_tree.specs.declared.tree.StructDef.{StructDef}
use Rattle.bl_tree.specs.declared.tree.Unit.{Unit as UnitDef}
use Rattle.bl_top_args.specs.Jobs.{Word}

-- the bytes are a C text of the program with this entry. Each activity with an instance has one function in its file, which alone names its counters. There are
-- as many counters as the activity's width. The file is simplified: in the one that it is made of, the function's body has as many `if`s as a machine of the
-- peeled program with merged blocks has blocks
pub record IsBuiltOfProgram (structs : List StructDef) (units : List UnitDef) (entry : ℕ) (text : List ℕ) : Type 0 where
  pub is : IsTextOfProgram structs units entry text
  pub functions : FunctionsOwn structs is.one_trace.peeled entry (parts_of is.behaves.file)
  pub frames : EachFrameHasWidth structs is.one_trace.peeled entry (parts_of is.behaves.file)
  pub emitted : Parts
  pub simplified : IsSimplified emitted (parts_of is.behaves.file)
  pub blocks : HasMergedBlocks structs is.one_trace.peeled entry emitted

-- the bytes are a C text of the program of a source, with its functions, counters and `if`s
pub record IsBuiltOf (left : Option (List ℕ)) (text : List ℕ) : Type 0 where
  pub raw : Raw
  pub tree : IsRawTreeOf left raw
  pub is : IsBuiltOfProgram (typed_of raw).structs (typed_of raw).units (typed_of raw).entry text

-- the status with which a C text of a source is built, and the lines for `notes`
pub data BuildEnds (c : Call) (source : Word) : Status → List ℕ → Type 0 where
  written : {ended : Status} → WritesResult (IsBuiltOf (c.left source)) c.out ended → BuildEnds c source ended (line_of ended)
  stopped : {ended : Status} {line : List ℕ} → IsNotAccepted (c.left source) (c.file source) ended line → IsKept c.out.before c.out.after →
      BuildEnds c source ended line
