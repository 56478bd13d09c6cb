-- How `save` and `resume` end.
use Rattle.std.specs.Prelude.{◌≡◌, ℕ, ℤ, true, false, List, take, Option, None, IfSome}
use Rattle.bl_ctext_semantics.specs.Cells.{inputs_of}
use Rattle.bl_ctext_semantics.specs.Parts.{Parts}
use Rattle.bl_ctext_semantics.specs.Trace.{cells_after, start_cells, start_succeeds}
use Rattle.bl_ctext_semantics_laws_places.specs.Behaviour.{Behaviour}
use Rattle.bl_top_commands.specs.Calls.{Call, Count, HasRisen, Output}
use Rattle.bl_top_commands.specs.Exec.{Loads, TextStops}
use Rattle.bl_top_commands.specs.Notes.{bad_rows_line, bad_state_line, line_of}
use Rattle.bl_top_commands.specs.Reads.{LeftBehind, state_limit, text_limit}
use Rattle.bl_top_commands.specs.Results.{WritesResult}
use Rattle.bl_top_commands.specs.Rows.{RunsOver}
use Rattle.bl_top_commands.specs.Sources.{IsSource}
use Rattle.bl_top_commands.specs.declared.status.Status.{Status}
use Rattle.bl_top_commands.specs.declared.status.Status.TheVariants as status
use Rattle.bl_io.specs.Left.{IsKept}
use Rattle.bl_rows.specs.Reading.{rows_of}
use Rattle.bl_save.specs.States.{SavedState, ShowsBadState}
use Rattle.bl_rows_stream.specs.Streams.{AreLeft, Unread, last_over, while_open}
use Rattle.bl_rows_stream.specs.declared.finish.Finish.TheVariants as finish
use Rattle.bl_rows_stream_laws.specs.Resumed.{resumed_by, silent_by}
use Rattle.bl_tree.specs.declared.row.Last.TheVariants.{Open, Ended, Trap}
use Rattle.bl_top_args.specs.Jobs.{Word}

-- ---- a saved state that is read

-- the bytes that are read of a file of a saved state: all of it, or its first 8,000,011, one more than a state may have
abbrev pub AreRead : Option (List ℕ) → List ℕ → Type 0
AreRead left bytes = IfSome left (λ whole. bytes ≡ take state_limit whole)

-- the bytes that are read of a file are a saved state, whose cells have these numbers
pub record HoldsState (file : Parts) (left : Option (List ℕ)) (numbers : List ℤ) : Type 0 where
  pub bytes : List ℕ
  pub are_read : AreRead left bytes
  pub saved : SavedState file numbers bytes

-- why a job stops at its saved state, with the status and the line
pub data StateStops (file : Parts) (left : Option (List ℕ)) (state : Count) : Status → List ℕ → Type 0 where
  -- the bytes are no saved state, and show it here. A file whose start traps has none, which shows at once
  bad_state : (bytes : List ℕ) (at : ℕ) → AreRead left bytes → ShowsBadState file bytes at →
      StateStops file left state status.BadState (bad_state_line at)
  state_unread : HasRisen state → StateStops file left state status.ReadFault (line_of status.ReadFault)
  state_want : StateStops file left state status.NoMemory (line_of status.NoMemory)

-- the status of a job that goes on from a saved state. `Goes` says how it goes on, from the numbers of the cells and the files as they are left
pub data FromStateEnds (c : Call) (text state : Word) (Goes : Parts → List ℤ → (Word → Option (List ℕ)) → Status → List ℕ → Type 0) :
    Status → List ℕ → Type 0 where
  went : {ended : Status} {line : List ℕ} (bytes : List ℕ) (behaviour : Behaviour) → IsSource (c.left text) bytes → (loads : Loads bytes behaviour) →
      (between : Word → Option (List ℕ)) → LeftBehind text_limit text c.left between →
      (numbers : List ℤ) → HoldsState loads.file (between state) numbers →
      (behind : Word → Option (List ℕ)) → LeftBehind state_limit state between behind →
      Goes loads.file numbers behind ended line → FromStateEnds c text state Goes ended line
  stopped_at_state : {ended : Status} {line : List ℕ} (bytes : List ℕ) (behaviour : Behaviour) → IsSource (c.left text) bytes →
      (loads : Loads bytes behaviour) → (between : Word → Option (List ℕ)) → LeftBehind text_limit text c.left between →
      StateStops loads.file (between state) (c.file state) ended line → IsKept c.out.before c.out.after → FromStateEnds c text state Goes ended line
  stopped_at_text : {ended : Status} {line : List ℕ} → TextStops (c.left text) (c.file text) ended line → IsKept c.out.before c.out.after →
      FromStateEnds c text state Goes ended line

-- `resume` shows the trace that goes on from the state
abbrev pub ResumeEnds : Call → Word → Word → Word → Status → List ℕ → Type 0
ResumeEnds c text state rows = FromStateEnds c text state
    (λ file numbers left ended line. RunsOver (resumed_by file numbers) (left rows) (c.rest rows) (c.file rows) c.out ended line)

-- ---- a state that is saved

-- the bytes are the saved state of the cells that these rows leave
abbrev pub IsStateAfter : Parts → List ℤ → List (List ℤ) → List ℕ → Type 0
IsStateAfter file numbers rows written = SavedState file (cells_after file rows numbers) written

-- how a run of the rows left of a file ends, from these numbers of the cells: status and line. Only the state after it, or a front of that, grows on `out`
pub data SavesOver (file : Parts) (numbers : List ℤ) (left rest : Option (List ℕ)) (rows : Count) (out : Output) : Status → List ℕ → Type 0 where
  -- all rows are good and leave the run open
  saved : {ended : Status} (bytes : List ℕ) → AreLeft left bytes → (rows_of bytes (inputs_of file)).fault ≡ None →
      last_over (silent_by file numbers) bytes ≡ Open →
      WritesResult (IsStateAfter file numbers (rows_of bytes (inputs_of file)).rows) out ended → SavesOver file numbers left rest rows out ended (line_of ended)
  ended : (bytes : List ℕ) → AreLeft left bytes → last_over (silent_by file numbers) bytes ≡ Ended → IsKept out.before out.after →
      SavesOver file numbers left rest rows out status.SaveEnded (line_of status.SaveEnded)
  trapped : (bytes : List ℕ) → AreLeft left bytes → last_over (silent_by file numbers) bytes ≡ Trap → IsKept out.before out.after →
      SavesOver file numbers left rest rows out status.Trapped (line_of status.Trapped)
  -- the run could go on at the first bad line
  bad_rows : (line : ℕ) (bytes : List ℕ) → AreLeft left bytes → last_over (silent_by file numbers) bytes ≡ Open →
      while_open (rows_of bytes (inputs_of file)).fault ≡ finish.BadRows line → IsKept out.before out.after →
      SavesOver file numbers left rest rows out status.BadRows (bad_rows_line line)
  -- nothing of what the file handed over has stopped the run. `None None` stands for no sink, since nothing is written
  unread : Unread (silent_by file numbers) left rest None None → HasRisen rows → IsKept out.before out.after →
      SavesOver file numbers left rest rows out status.ReadFault (line_of status.ReadFault)
  no_memory : IsKept out.before out.after → SavesOver file numbers left rest rows out status.NoMemory (line_of status.NoMemory)

-- the status with which the state of a C text is saved after a file of rows, and the lines for `notes`
pub data SaveEnds (c : Call) (text rows : Word) : Status → List ℕ → Type 0 where
  -- the run begins from what the start leaves, over the rows that are left once the text was read
  ran : {ended : Status} {line : List ℕ} (bytes : List ℕ) (behaviour : Behaviour) → IsSource (c.left text) bytes → (loads : Loads bytes behaviour) →
      start_succeeds loads.file ≡ true → (between : Word → Option (List ℕ)) → LeftBehind text_limit text c.left between →
      SavesOver loads.file (start_cells loads.file) (between rows) (c.rest rows) (c.file rows) c.out ended line → SaveEnds c text rows ended line
  trapped_at_start : (bytes : List ℕ) (behaviour : Behaviour) → IsSource (c.left text) bytes → (loads : Loads bytes behaviour) →
      start_succeeds loads.file ≡ false → IsKept c.out.before c.out.after → SaveEnds c text rows status.Trapped (line_of status.Trapped)
  stopped : {ended : Status} {line : List ℕ} → TextStops (c.left text) (c.file text) ended line → IsKept c.out.before c.out.after →
      SaveEnds c text rows ended line

-- `save` from a state saves the state after further rows
abbrev pub SaveFromEnds : Call → Word → Word → Word → Status → List ℕ → Type 0
SaveFromEnds c text state rows = FromStateEnds c text state
    (λ file numbers left ended line. SavesOver file numbers (left rows) (c.rest rows) (c.file rows) c.out ended line)
