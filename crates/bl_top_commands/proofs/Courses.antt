-- What is run of a program is run of its source.
use Rattle.std.proofs.Common.{◌≡◌, ◌∙◌, ℕ, List, sym, ap, subst}
use Rattle.std.specs.Prelude.{Option}
use Rattle.bl_ctext_semantics.specs.Parts.{Parts}
use Rattle.bl_top_commands.specs.Sources.{IsProgramOfSource, RunsAs}
use Rattle.bl_top_commands.specs.Traces.{HasCourse}
use Rattle.bl_crun.specs.Running.{Running, loaded}
use Rattle.bl_types_program.specs.Programs.{typed_of}
use Rattle.bl_rows.specs.Reading.{empty_reading, rows_in, rows_of}
use Rattle.bl_rows_stream.specs.Streams.{Course}
use Rattle.bl_tree.specs.Ports.{RowsFit}
use Rattle.bl_tree.specs.declared.program.Program.{Program}
use Rattle.bl_tree.specs.declared.row.Column.{Column}
use Rattle.bl_tree.specs.declared.tree.StructDef.{StructDef}
use Rattle.bl_tree.specs.declared.tree.Unit.{Unit as UnitDef}
use Rattle.bl_top_commands.proofs.Fronts.{tree_of_program}

-- ---- rows that fit columns

-- the rows of any bytes fit the columns that they are read for, and so do those of whole lines
abbrev pub BytesFit : Type 0
BytesFit = (bytes : List ℕ) (columns : List Column) → RowsFit columns (rows_of bytes columns).rows

abbrev pub LinesFit : Type 0
LinesFit = (bytes : List ℕ) (columns : List Column) → RowsFit columns (rows_in (empty_reading columns) bytes)

-- the course of the program of a tree
course_of_tree : (course : Course) (structs structs' : List StructDef) (units units' : List UnitDef) (entry entry' : ℕ) →
    structs ≡ structs' → units ≡ units' → entry ≡ entry' →
    HasCourse structs units entry course → HasCourse structs' units' entry' course
course_of_tree course structs structs' units units' entry entry' s u e has =
    subst (λ n. HasCourse structs' units' n course) e (subst (λ us. HasCourse structs' us entry course) u
    (subst (λ ss. HasCourse ss units entry course) s has))

pub runs_as_program : (left : Option (List ℕ)) (program : Program) (course : Course) → IsProgramOfSource left program →
    HasCourse program.structs program.units program.entry course → RunsAs left course
runs_as_program left program course is has =
    let made = is.has in
    record {
      raw = made.raw;
      tree = tree_of_program left program is;
      has = course_of_tree course program.structs (typed_of made.raw).structs program.units (typed_of made.raw).units program.entry
          (typed_of made.raw).entry made.is.structs made.is.units made.is.entry has;
    }

-- ---- what was just loaded

pub loaded_parts : (ready : Running) (file : Parts) → ready ≡ loaded file → ready.parts ≡ file
loaded_parts ready file e = ap (λ (r : Running). r.parts) e

pub loaded_fresh : (ready : Running) (file : Parts) → ready ≡ loaded file → ready ≡ loaded ready.parts
loaded_fresh ready file e = e ∙ ap loaded (sym (loaded_parts ready file e))
