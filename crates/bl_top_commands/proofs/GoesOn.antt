-- What goes on from a saved state shows the rest of the one trace of the program.
use Rattle.std.proofs.Common.{◌≡◌, ℕ, ℤ, List, [], ◌∷◌, ◌++◌, refl, ap, subst}
use Rattle.std.specs.Prelude.{◌↔◌, ◌&&◌}
use Rattle.std.proofs.lemmas.Bool.{and_from, and_parts}
use Rattle.bl_ctext_semantics.specs.Cells.{inputs_of}
use Rattle.bl_ctext_semantics.specs.Parts.{Parts, parts_of}
use Rattle.bl_ctext_semantics.specs.Trace.{c_trace, c_trace_from, trace_then}
use Rattle.bl_ctext_semantics_laws_places.specs.Behaviour.{Behaviour, behaviour_of}
use Rattle.bl_top_commands.proofs.Courses.{BytesFit, LinesFit}
use Rattle.bl_top_commands.proofs.SameFiles.{EachBehaves}
use Rattle.bl_top_commands.specs.Resumed.{LeavesState, ResumesCourse, StatesGoOnAsMeant, StatesGoOnAsTheirSource}
use Rattle.bl_top_commands.specs.Sources.{IsTextOfProgram}
use Rattle.bl_top_commands.specs.Traces.{OneTrace}
use Rattle.bl_ctext.specs.SpellsC.{SpellsC}
use Rattle.bl_ctext.specs.declared.file.CFile.{CFile}
use Rattle.bl_ctree.specs.Means.{Means, ShownTrace, shown_trace}
use Rattle.bl_types_program.specs.Programs.{typed_of}
use Rattle.bl_rows.specs.Reading.{empty_reading, rows_in, rows_of}
use Rattle.bl_rows.specs.Text.{text_of}
use Rattle.bl_save.specs.States.{SavedState}
use Rattle.bl_save_laws.specs.Laws.{StateGoesOn}
use Rattle.bl_rows_stream_laws.specs.Resumed.{resumed_by}
use Rattle.bl_tree.specs.Ports.{RowsFit, input_columns, row_fits}
use Rattle.bl_tree.specs.declared.row.Column.{Column}
use Rattle.bl_tree.specs.declared.tree.StructDef.{StructDef}
use Rattle.bl_tree.specs.declared.tree.Unit.{Unit as UnitDef}

-- ---- rows

-- rows that fit, and others behind them
pub rows_join : (columns : List Column) (first rest : List (List ℤ)) → RowsFit columns first → RowsFit columns rest → RowsFit columns (first ++ rest)
rows_join columns [] rest fit more = more
rows_join columns (row ∷ first) rest fit more =
    let both = and_parts (row_fits columns row) _ fit in
    and_from (row_fits columns row) _ both.0 (rows_join columns first rest both.1 more)

-- ---- the trace

-- runs of every file go on from saved states
abbrev pub RunsGoOn : Type 0
RunsGoOn = (file : Parts) → StateGoesOn file

-- the trace over all rows
pub joined : RunsGoOn → (file : Parts) (first rest : List (List ℤ)) (state : List ℕ) (numbers : List ℤ) → LeavesState file first state →
    SavedState file numbers state → c_trace file (first ++ rest) ≡ trace_then (c_trace file first) (c_trace_from file rest numbers)
joined law file first rest state numbers leaves read = law file first rest state numbers leaves.running leaves.saved read

-- a file that has the one trace of a program
module _ (law : RunsGoOn) (structs : List StructDef) (units : List UnitDef) (entry : ℕ) (file : Parts)
    (is : OneTrace structs units entry (behaviour_of file)) (first : List (List ℤ)) (state : List ℕ) (numbers : List ℤ)
    (leaves : LeavesState file first state) (read : SavedState file numbers state) where
  fit_entry : (rows : List (List ℤ)) → RowsFit (inputs_of file) rows → RowsFit (input_columns is.unit) rows
  fit_entry rows fit = subst (λ columns. RowsFit columns rows) is.inputs fit

  means_all : (rest : List (List ℤ)) (shows : ShownTrace) → RowsFit (input_columns is.unit) rest →
      Means structs units entry (first ++ rest) shows ↔ (shows ≡ shown_trace (trace_then (c_trace file first) (c_trace_from file rest numbers)))
  means_all rest shows fit =
      subst (λ trace. Means structs units entry (first ++ rest) shows ↔ (shows ≡ shown_trace trace)) (joined law file first rest state numbers leaves read)
      (is.trace (first ++ rest) shows (rows_join (input_columns is.unit) first rest (fit_entry first leaves.fit) fit))

  pub means_joined : (rest : List (List ℤ)) (shows : ShownTrace) → RowsFit (inputs_of file) rest →
      Means structs units entry (first ++ rest) shows ↔ (shows ≡ shown_trace (trace_then (c_trace file first) (c_trace_from file rest numbers)))
  means_joined rest shows fit = means_all rest shows (fit_entry rest fit)

  pub course_goes_on : BytesFit → LinesFit → ResumesCourse structs units entry first (resumed_by file numbers)
  course_goes_on bytes_fit lines_fit = record {
    unit = is.unit;
    is_entry = is.is_entry;
    inputs = is.inputs;
    first_fit = fit_entry first leaves.fit;
    before = c_trace file first;
    running = leaves.running;
    one_before = λ shows. is.trace first shows (fit_entry first leaves.fit);
    rest = λ rows. c_trace_from file rows numbers;
    one = means_all;
    stands = λ rows. refl;
    shows = λ rows. ap (text_of (c_trace_from file rows numbers)) is.outputs;
    fit = λ bytes. fit_entry (rows_of bytes (inputs_of file)).rows (bytes_fit bytes (inputs_of file));
    fit_so_far = λ bytes. fit_entry (rows_in (empty_reading (inputs_of file)) bytes) (lines_fit bytes (inputs_of file));
  }

-- ---- the laws

spelled_trace : EachBehaves → (structs : List StructDef) (units : List UnitDef) (entry : ℕ) (text : List ℕ) (file : CFile) →
    IsTextOfProgram structs units entry text → SpellsC file text → OneTrace structs units entry (behaviour_of (parts_of file))
spelled_trace each structs units entry text file is spells =
    subst (λ (b : Behaviour). OneTrace structs units entry b) ((each file text is.behaviour spells).0 is.behaves).1 is.one_trace

pub states_meant : RunsGoOn → EachBehaves → StatesGoOnAsMeant
states_meant law each structs units entry text file is spells first rest state numbers shows leaves read fit =
    means_joined law structs units entry (parts_of file) (spelled_trace each structs units entry text file is spells) first state numbers leaves read
    rest shows fit

pub states_source : RunsGoOn → EachBehaves → BytesFit → LinesFit → StatesGoOnAsTheirSource
states_source law each bytes_fit lines_fit source text file is spells first state numbers leaves read =
    let program = typed_of is.raw in
    record {
      raw = is.raw;
      tree = is.tree;
      goes_on = course_goes_on law program.structs program.units program.entry (parts_of file)
          (spelled_trace each program.structs program.units program.entry text file is.is spells) first state numbers leaves read bytes_fit lines_fit;
    }
