-- What is run of a program has the program's one trace.
use Rattle.std.proofs.Common.{◌≡◌, ℕ, ℤ, List, refl, sym, ap, ◌∙◌, subst, arith}
use Rattle.std.specs.Prelude.{◌<◌, ◌≤◌, Some}
use Rattle.bl_ctext_semantics.specs.Faults.{WellFormed, first_fault, first_place}
use Rattle.bl_ctext_semantics.specs.Parts.{Parts, parts_of}
use Rattle.bl_ctext_semantics.specs.Sizes.{cells_needed}
use Rattle.bl_ctext_semantics_laws_places.specs.Behaviour.{Behaviour, behaviour_of}
use Rattle.bl_top_commands.specs.Traces.{HasCourse, OneTrace, course_by}
use Rattle.bl_crun.specs.Cause.{IsCause}
use Rattle.bl_crun.specs.Running.{loaded}
use Rattle.bl_crun.specs.declared.fault.LoadFault.{LoadFault}
use Rattle.bl_crun.specs.declared.fault.LoadFault.TheVariants as load
use Rattle.bl_ctext.specs.declared.file.CFile.{CFile}
use Rattle.bl_rows.specs.Reading.{empty_reading, rows_in, rows_of}
use Rattle.bl_rows.specs.Text.{text_of}
use Rattle.bl_rows_stream.specs.Streams.{course_of}
use Rattle.bl_top.specs.inner.Programs.{IsFileOfProgram}
use Rattle.bl_tree.specs.Ports.{RowsFit, input_columns}
use Rattle.bl_tree.specs.declared.place.Place.{Place}
use Rattle.bl_tree.specs.declared.row.Column.{Column}
use Rattle.bl_tree.specs.declared.tree.StructDef.{StructDef}
use Rattle.bl_tree.specs.declared.tree.Unit.{Unit as UnitDef}
use Rattle.bl_top_commands.proofs.Resumes.{none_and_some}

-- ---- rows that fit columns

columns_fit : (columns wanted : List Column) (rows : List (List ℤ)) → columns ≡ wanted → RowsFit columns rows → RowsFit wanted rows
columns_fit columns wanted rows same fit = subst (λ cs. RowsFit cs rows) same fit

-- the rows of any bytes fit the columns that they are read for, and so do those of whole lines
abbrev pub BytesFit : Type 0
BytesFit = (bytes : List ℕ) (columns : List Column) → RowsFit columns (rows_of bytes columns).rows

abbrev pub LinesFit : Type 0
LinesFit = (bytes : List ℕ) (columns : List Column) → RowsFit columns (rows_in (empty_reading columns) bytes)

-- ---- what behaves as a program, as a course

pub course_of_behaviour : (structs : List StructDef) (units : List UnitDef) (entry : ℕ) (behaviour : Behaviour) →
    OneTrace structs units entry behaviour → BytesFit → LinesFit → HasCourse structs units entry (course_by behaviour)
course_of_behaviour structs units entry behaviour is fit so_far = record {
  unit = is.unit;
  is_entry = is.is_entry;
  inputs = is.inputs;
  trace = behaviour.trace;
  one = is.trace;
  stands = λ rows. refl;
  shows = λ rows. ap (text_of (behaviour.trace rows)) is.outputs;
  fit = λ bytes. columns_fit behaviour.inputs (input_columns is.unit) (rows_of bytes behaviour.inputs).rows is.inputs (fit bytes behaviour.inputs);
  fit_so_far = λ bytes. columns_fit behaviour.inputs (input_columns is.unit) (rows_in (empty_reading behaviour.inputs) bytes) is.inputs
      (so_far bytes behaviour.inputs);
  peeled = is.peeled;
  are_peeled = is.are_peeled;
  bounded = is.bounded;
  never_stuck = is.never_stuck;
}

pub course_of_parts : (structs : List StructDef) (units : List UnitDef) (entry : ℕ) (file : CFile) (ready : Parts) →
    ready ≡ parts_of file → IsFileOfProgram structs units entry file → BytesFit → LinesFit → HasCourse structs units entry (course_of ready)
course_of_parts structs units entry file ready same is fit so_far =
    subst (λ parts. HasCourse structs units entry (course_of parts)) (sym same)
    (course_of_behaviour structs units entry (behaviour_of (parts_of file)) is.one_trace fit so_far)

-- ---- it is loaded, unless memory is wanting

-- a well-formed file has no first fault
pub faultless : (file : Parts) (at : Place) → WellFormed file → first_fault file ≡ Some at → ⊥
faultless file at formed is = none_and_some (first_fault file) at (ap first_place formed.none) is

pub not_large : (cells : ℕ) → 1000000 < cells → cells ≤ 1000000 → ⊥
not_large cells large small = omega (arith, large, small)

pub wants_memory : (file : CFile) (structs : List StructDef) (units : List UnitDef) (entry : ℕ) (fault : LoadFault) →
    IsFileOfProgram structs units entry file → IsCause (parts_of file) fault →
    fault ≡ load.NoMemory
wants_memory file structs units entry (load.IllFormed at) is cause = absurd (faultless (parts_of file) at is.well_formed cause)
wants_memory file structs units entry (load.TooLarge cells) is cause = absurd (not_large (cells_needed (parts_of file)) cause.large is.one_trace.small)
wants_memory file structs units entry load.NoMemory is cause = refl

-- ---- what was just loaded
