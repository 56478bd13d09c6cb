-- Saved states of a C text, and runs that go on from them as the program that the text was built of means it.
use Rattle.std.specs.Prelude.{◌≡◌, ◌≢◌, ◌⊎◌, ◌↔◌, ℕ, ℤ, List, [], ◌++◌, Option, Some, None, slice_get}
use Rattle.bl_ctext_semantics.specs.Cells.{inputs_of}
use Rattle.bl_ctext_semantics.specs.Parts.{Parts, parts_of}
use Rattle.bl_ctext_semantics.specs.Trace.{c_trace, c_trace_from, cells_after, start_cells, trace_then}
use Rattle.bl_top_commands.specs.Calls.{Call, HasRisen, Output}
use Rattle.bl_top_commands.specs.Exec.{HasFile}
use Rattle.bl_top_commands.specs.Notes.{line_of}
use Rattle.bl_top_commands.specs.Reads.{LeftBehind, state_limit, text_limit}
use Rattle.bl_top_commands.specs.Rows.{RunsOver}
use Rattle.bl_top_commands.specs.Save.{ResumeEnds, SaveEnds, SaveFromEnds}
use Rattle.bl_top_commands.specs.Sources.{IsTextOf, IsTextOfProgram, IsRawTreeOf}
use Rattle.bl_top_commands.specs.declared.status.Status.{Status}
use Rattle.bl_top_commands.specs.declared.status.Status.TheVariants as status
use Rattle.bl_ctext.specs.SpellsC.{SpellsC}
use Rattle.bl_ctext.specs.declared.file.CFile.{CFile}
use Rattle.bl_ctree.specs.Means.{Means, ShownTrace, shown_trace}
use Rattle.bl_io.specs.Held.{Appends}
use Rattle.bl_io.specs.Left.{IsKept}
use Rattle.bl_types_program.specs.Programs.{typed_of}
use Rattle.bl_parse_tree.specs.declared.raw.Raw.{Raw}
use Rattle.bl_rows.specs.Reading.{empty_reading, rows_in, rows_of}
use Rattle.bl_rows.specs.Text.{text_of}
use Rattle.bl_save.specs.States.{SavedState}
use Rattle.bl_rows_stream.specs.Streams.{AreLeft, Course}
use Rattle.bl_rows_stream_laws.specs.Resumed.{resumed_by}
use Rattle.bl_tree.specs.declared.row.Last.TheVariants.{Open}
use Rattle.bl_tree.specs.declared.row.Trace.{Trace}
use Rattle.bl_tree.specs.declared.tree.StructDef.{StructDef}
use Rattle.bl_tree.specs.declared.tree.Unit.{Unit as UnitDef}
use Rattle.bl_tree.specs.Ports.{RowsFit, input_columns, output_columns}
use Rattle.bl_top_args.specs.Jobs.{Word}

-- ---- what is saved

-- the rows fit the inputs of a file and leave its run open, and the bytes are the saved state after them
pub record LeavesState (file : Parts) (first : List (List ℤ)) (state : List ℕ) : Type 0 where
  pub fit : RowsFit (inputs_of file) first
  pub running : (c_trace file first).last ≡ Open
  pub saved : SavedState file (cells_after file first (start_cells file)) state

-- the bytes are the saved state of a C text's file after these rows
pub record IsStateOf (text : List ℕ) (first : List (List ℤ)) (state : List ℕ) : Type 0 where
  pub file : Parts
  pub has : HasFile text file
  pub leaves : LeavesState file first state

-- the saved state of a C text's file grew on a sink: that after these rows and then the rows left of a file
pub record HasSaved (text : List ℕ) (first : List (List ℤ)) (left : Option (List ℕ)) (out : Output) : Type 0 where
  pub file : Parts
  pub has : HasFile text file
  pub bytes : List ℕ
  pub are_left : AreLeft left bytes
  pub good : (rows_of bytes (inputs_of file)).fault ≡ None
  pub state : List ℕ
  pub leaves : LeavesState file (first ++ (rows_of bytes (inputs_of file)).rows) state
  pub grew : Appends out.before state out.after

-- ---- what goes on

-- the course goes on after the rows with the rest of the one trace of a program, which is open after them. The text has a header of its own and counts ticks
-- from 1
pub record ResumesCourse (structs : List StructDef) (units : List UnitDef) (entry : ℕ) (first : List (List ℤ)) (course : Course) : Type 0 where
  pub unit : UnitDef
  pub is_entry : slice_get units entry ≡ Some unit
  -- the columns of the course's rows are the entry's inputs, which the first rows fit
  pub inputs : course.ins ≡ input_columns unit
  pub first_fit : RowsFit (input_columns unit) first
  -- the semantics allows this trace over the first rows, and no other
  pub before : Trace
  pub running : before.last ≡ Open
  pub one_before : (shows : ShownTrace) → Means structs units entry first shows ↔ (shows ≡ shown_trace before)
  -- the semantics allows one trace over the first and all further rows that fit: the one before, and then the rest
  pub rest : List (List ℤ) → Trace
  pub one : (rows : List (List ℤ)) (shows : ShownTrace) → RowsFit (input_columns unit) rows →
      Means structs units entry (first ++ rows) shows ↔ (shows ≡ shown_trace (trace_then before (rest rows)))
  -- the course stands as the rest does after further rows, and shows the text of the rest, with its own header
  pub stands : (rows : List (List ℤ)) → course.last rows ≡ (rest rows).last
  pub shows : (rows : List (List ℤ)) → course.text rows ≡ text_of (rest rows) (output_columns unit)
  -- the rows of any bytes fit, and so do the rows of the complete lines in a prefix
  pub fit : (bytes : List ℕ) → RowsFit (input_columns unit) (rows_of bytes course.ins).rows
  pub fit_so_far : (bytes : List ℕ) → RowsFit (input_columns unit) (rows_in (empty_reading course.ins) bytes)

-- the course goes on, after these rows, as the program of the source does
pub record GoesOnAs (source : Option (List ℕ)) (first : List (List ℤ)) (course : Course) : Type 0 where
  pub raw : Raw
  pub tree : IsRawTreeOf source raw
  pub goes_on : ResumesCourse (typed_of raw).structs (typed_of raw).units (typed_of raw).entry first course

-- the status and the lines for `notes` of `resume` with the C text of a source and a state saved after these rows: neither is rejected
pub data ResumedEnds (source : Option (List ℕ)) (first : List (List ℤ)) (c : Call) (text state rows : Word) : Status → List ℕ → Type 0 where
  -- over the rows that are left once both were read, by the rest of the one trace of the source's program
  went : {ended : Status} {line : List ℕ} (course : Course) → GoesOnAs source first course →
      (between : Word → Option (List ℕ)) → LeftBehind text_limit text c.left between →
      (behind : Word → Option (List ℕ)) → LeftBehind state_limit state between behind →
      RunsOver course (behind rows) (c.rest rows) (c.file rows) c.out ended line → ResumedEnds source first c text state rows ended line
  unread : HasRisen (c.file text) ⊎ HasRisen (c.file state) → IsKept c.out.before c.out.after →
      ResumedEnds source first c text state rows status.ReadFault (line_of status.ReadFault)
  want : IsKept c.out.before c.out.after → ResumedEnds source first c text state rows status.NoMemory (line_of status.NoMemory)

-- ---- the laws

-- the semantics allows one trace over rows with a saved state between them: that over the first rows, continued from the numbers of the state
abbrev pub StatesGoOnAsMeant : Type 0
StatesGoOnAsMeant = (structs : List StructDef) (units : List UnitDef) (entry : ℕ) (text : List ℕ) (file : CFile) →
    IsTextOfProgram structs units entry text → SpellsC file text →
    (first rest : List (List ℤ)) (state : List ℕ) (numbers : List ℤ) (shows : ShownTrace) →
    LeavesState (parts_of file) first state → SavedState (parts_of file) numbers state → RowsFit (inputs_of (parts_of file)) rest →
    Means structs units entry (first ++ rest) shows
    ↔ (shows ≡ shown_trace (trace_then (c_trace (parts_of file) first) (c_trace_from (parts_of file) rest numbers)))

-- the course that goes on from a saved state shows the rest of the one trace of the text's source
abbrev pub StatesGoOnAsTheirSource : Type 0
StatesGoOnAsTheirSource = (source : Option (List ℕ)) (text : List ℕ) (file : CFile) → IsTextOf source text → SpellsC file text →
    (first : List (List ℤ)) (state : List ℕ) (numbers : List ℤ) → LeavesState (parts_of file) first state →
    SavedState (parts_of file) numbers state → GoesOnAs source first (resumed_by (parts_of file) numbers)

-- `save` that ends Ok has written the state after the rows of its file
abbrev pub SavesLeaveStates : Type 0
SavesLeaveStates = (c : Call) (text rows : Word) (line whole : List ℕ) → c.left text ≡ Some whole → SaveEnds c text rows status.Ok line →
    (between : Word → Option (List ℕ)) × LeftBehind text_limit text c.left between × HasSaved whole [] (between rows) c.out

-- `save` that ends Ok, from a state saved after some rows, has written the state after these and the rows of its file
abbrev pub FurtherSavesLeaveStates : Type 0
FurtherSavesLeaveStates = (c : Call) (text state rows : Word) (line whole saved : List ℕ) (first : List (List ℤ)) →
    c.left text ≡ Some whole → c.left state ≡ Some saved → IsStateOf whole first saved → SaveFromEnds c text state rows status.Ok line →
    (between : Word → Option (List ℕ)) × LeftBehind text_limit text c.left between
    × ((behind : Word → Option (List ℕ)) × LeftBehind state_limit state between behind × HasSaved whole first (behind rows) c.out)

-- a saved state of a text isn't rejected as a state by `save` or by `resume`
abbrev pub SavedStatesAreTaken : Type 0
SavedStatesAreTaken = (c : Call) (text state rows : Word) (ended : Status) (line whole saved : List ℕ) (first : List (List ℤ)) →
    c.left text ≡ Some whole → c.left state ≡ Some saved → IsStateOf whole first saved →
    SaveFromEnds c text state rows ended line ⊎ ResumeEnds c text state rows ended line → ended ≢ status.BadState

-- `resume` from a state that was saved after some rows, of a text of a source, shows the rest of the source's one trace
abbrev pub ResumesShowTheRest : Type 0
ResumesShowTheRest = (source : Option (List ℕ)) (c : Call) (text state rows : Word) (ended : Status) (line whole saved : List ℕ)
    (first : List (List ℤ)) → IsTextOf source whole → c.left text ≡ Some whole → c.left state ≡ Some saved → IsStateOf whole first saved →
    ResumeEnds c text state rows ended line → ResumedEnds source first c text state rows ended line
