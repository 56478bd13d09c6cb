-- Runs that go on from numbers of the cells.
use Rattle.std.specs.Prelude.{◌≡◌, ℕ, ℤ, true, false, List, [], Option, None}
use Rattle.bl_ctext_semantics.specs.Cells.{inputs_of, outputs_of}
use Rattle.bl_ctext_semantics.specs.Parts.{Parts}
use Rattle.bl_ctext_semantics.specs.Trace.{c_trace_from, cells_after}
use Rattle.bl_crun.specs.Running.{Running}
use Rattle.bl_rows.specs.Reading.{rows_of}
use Rattle.bl_rows.specs.Text.{text_of}
use Rattle.bl_rows_stream.specs.Streams.{AreLeft, Course, Unread, last_over, while_open}
use Rattle.bl_rows_stream.specs.declared.finish.Finish.{Finish}
use Rattle.bl_rows_stream.specs.declared.finish.Finish.TheVariants as finish
use Rattle.bl_tree.specs.declared.row.Last.TheVariants.{Open, Ended, Trap}

-- a live runner of a file whose start hasn't trapped, with these numbers in its cells
abbrev pub runner_from : Parts → List ℤ → Running
runner_from file numbers = record { parts = file; cells = numbers; ready = true; live = true }

-- the course that runs a file from these numbers of its cells, and shows the trace that goes on from them
abbrev pub resumed_by : Parts → List ℤ → Course
resumed_by file numbers = record {
  ins = inputs_of file;
  last = λ rows. (c_trace_from file rows numbers).last;
  text = λ rows. text_of (c_trace_from file rows numbers) (outputs_of file);
}

-- the course that runs a file from these numbers of its cells, and shows nothing
abbrev pub silent_by : Parts → List ℤ → Course
silent_by file numbers = record {
  ins = inputs_of file;
  last = λ rows. (c_trace_from file rows numbers).last;
  text = λ rows. [];
}

-- the rows of a whole file leave the run open, and this runner of the file has the cells that they leave
pub record LeavesOpen (file : Parts) (numbers : List ℤ) (left : Option (List ℕ)) (now : Running) : Type 0 where
  pub bytes : List ℕ
  pub are_left : AreLeft left bytes
  pub good : (rows_of bytes (inputs_of file)).fault ≡ None
  pub going : last_over (silent_by file numbers) bytes ≡ Open
  pub live : now.live ≡ true
  pub parts : now.parts ≡ file
  pub cells : now.cells ≡ cells_after file (rows_of bytes (inputs_of file)).rows numbers

-- the end of a silent run from these numbers over what is left of a file, what is left then, and the runner after it
pub data RunsSilently (file : Parts) (numbers : List ℤ) (left rest : Option (List ℕ)) (now : Running) : Finish → Type 0 where
  goes_on : LeavesOpen file numbers left now → RunsSilently file numbers left rest now finish.Done
  ended : (bytes : List ℕ) → AreLeft left bytes → last_over (silent_by file numbers) bytes ≡ Ended → now.live ≡ false →
      RunsSilently file numbers left rest now finish.Done
  trapped : (bytes : List ℕ) → AreLeft left bytes → last_over (silent_by file numbers) bytes ≡ Trap →
      RunsSilently file numbers left rest now finish.Trapped
  -- the run could go on at the first bad line
  bad_rows : (line : ℕ) (bytes : List ℕ) → AreLeft left bytes → last_over (silent_by file numbers) bytes ≡ Open →
      while_open (rows_of bytes (inputs_of file)).fault ≡ finish.BadRows line → RunsSilently file numbers left rest now (finish.BadRows line)
  unread : Unread (silent_by file numbers) left rest None None → RunsSilently file numbers left rest now finish.ReadFault
  no_memory : RunsSilently file numbers left rest now finish.NoMemory
