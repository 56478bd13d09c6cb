-- That what is written for a program, and what is run of it, has the trace of the program.
use Rattle.std.specs.Prelude.{◌≡◌, ◌↔◌, ◌≤◌, ℕ, ℤ, List, Some, slice_get}
use Rattle.bl_cause_trees.specs.Peeled.{ArePeeled}
use Rattle.bl_ctext_semantics_laws_places.specs.Behaviour.{Behaviour}
use Rattle.bl_ctree.specs.Means.{Means, ShownTrace, shown_trace}
use Rattle.bl_ctree.specs.Measure.{steps}
use Rattle.bl_ctree.specs.Reaches.{Bounded, NeverStuck}
use Rattle.bl_limits_measures.specs.Units.{cells_at}
use Rattle.bl_rows.specs.Reading.{empty_reading, rows_in, rows_of}
use Rattle.bl_rows.specs.Text.{text_of}
use Rattle.bl_rows_stream.specs.Streams.{Course}
use Rattle.bl_tree.specs.declared.row.Trace.{Trace}
use Rattle.bl_tree.specs.declared.tree.StructDef.{StructDef}
use Rattle.bl_tree.specs.declared.tree.Unit.{Unit as UnitDef}
use Rattle.bl_tree.specs.Ports.{RowsFit, input_columns, output_columns}

-- the C file has the one trace that the semantics of the program allows
pub record OneTrace (structs : List StructDef) (units : List UnitDef) (entry : ℕ) (behaviour : Behaviour) : Type 0 where
  pub unit : UnitDef
  pub is_entry : slice_get units entry ≡ Some unit
  -- the program's peeled units: their bodies are those by which the rules Twice to Cells are judged
  pub peeled : List UnitDef
  pub are_peeled : ArePeeled units peeled
  -- the file needs no more cells than rule Cells counts for the entry
  pub counted : behaviour.needed ≤ cells_at structs peeled entry
  -- the file needs no more cells than can be loaded, and its inputs and outputs are those of the entry
  pub small : behaviour.needed ≤ 1000000
  pub inputs : behaviour.inputs ≡ input_columns unit
  pub outputs : behaviour.outputs ≡ output_columns unit
  -- the semantics allows the trace of the C file, and no other, over all rows that fit its inputs
  pub trace : (rows : List (List ℤ)) (shows : ShownTrace) → RowsFit (input_columns unit) rows →
      Means structs units entry rows shows ↔ (shows ≡ shown_trace (behaviour.trace rows))
  -- no list of steps within a tick is longer than the number of steps of the peeled program
  pub bounded : Bounded (steps structs peeled entry) structs units entry
  -- no tick is stuck: where no point is enabled, nothing is left to do
  pub never_stuck : NeverStuck structs units entry

-- the course that runs a C file with this behaviour, and shows its trace
abbrev pub course_by : Behaviour → Course
course_by behaviour = record {
  ins = behaviour.inputs;
  last = λ rows. (behaviour.trace rows).last;
  text = λ rows. text_of (behaviour.trace rows) behaviour.outputs;
}

-- a program has one trace, and a course runs it and shows its text
pub record HasCourse (structs : List StructDef) (units : List UnitDef) (entry : ℕ) (course : Course) : Type 0 where
  pub unit : UnitDef
  pub is_entry : slice_get units entry ≡ Some unit
  -- the columns of the course's rows are the entry's inputs
  pub inputs : course.ins ≡ input_columns unit
  -- the semantics allows this one trace over all rows that fit the inputs
  pub trace : List (List ℤ) → Trace
  pub one : (rows : List (List ℤ)) (shows : ShownTrace) → RowsFit (input_columns unit) rows →
      Means structs units entry rows shows ↔ (shows ≡ shown_trace (trace rows))
  -- the course stands as this trace does after rows, and shows its text
  pub stands : (rows : List (List ℤ)) → course.last rows ≡ (trace rows).last
  pub shows : (rows : List (List ℤ)) → course.text rows ≡ text_of (trace rows) (output_columns unit)
  -- the rows of any bytes fit, and so do the rows of the complete lines in a prefix
  pub fit : (bytes : List ℕ) → RowsFit (input_columns unit) (rows_of bytes course.ins).rows
  pub fit_so_far : (bytes : List ℕ) → RowsFit (input_columns unit) (rows_in (empty_reading course.ins) bytes)
  -- no list of steps within a tick is longer than the number of steps of the peeled program
  pub peeled : List UnitDef
  pub are_peeled : ArePeeled units peeled
  pub bounded : Bounded (steps structs peeled entry) structs units entry
  -- where no point may act nothing is left to do
  pub never_stuck : NeverStuck structs units entry
