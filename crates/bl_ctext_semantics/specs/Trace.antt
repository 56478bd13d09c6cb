-- What a C file does over rows of inputs.
use Rattle.std.specs.Prelude.{ℕ, ℤ, pos, Bool, true, false, List, [], ◌∷◌, ◌++◌, Option, Some, None, is_some, codes, if◌then◌else◌}
use Rattle.std.specs.Ordering.{int_eq}
use Rattle.bl_tree.specs.declared.row.Trace.{Trace}
use Rattle.bl_tree.specs.declared.row.Last.TheVariants.{Open, Ended, Trap}
use Rattle.bl_tree.specs.declared.text.Text.{Text}
use Rattle.bl_ctext_semantics.specs.Parts.{Parts}
use Rattle.bl_ctext_semantics.specs.Memory.{Root, state_object, input_object, output_object, Memory, cleared}
use Rattle.bl_ctext_semantics.specs.Tables.{found}
use Rattle.bl_ctext_semantics.specs.Meaning.{ArgumentValue, by_address, CallResult, applied, meanings}
use Rattle.bl_ctext_semantics.specs.Cells.{cells_of, memory_of, numbers_of, ports_of, with_inputs, outputs_in}

-- the address of a whole object
abbrev pub object : Root → ArgumentValue
object root = by_address (record { root = root; parts = [] })

-- a call of a function of the file, from outside
unfoldable pub call_from_outside : Parts → Text → List ArgumentValue → Memory → CallResult
call_from_outside file name passed memory = applied (found name (meanings file.funcs)) 0 passed memory

-- the reply of a tick
pub data Reply : Type 0 where
  -- a row, and the run can go on
  row : Reply
  -- a row, and the run has ended
  ended : Reply
  trapped : Reply

-- the result of one tick
pub record TickOfFile : Type 0 where
  pub reply : Reply
  -- the outputs
  pub outputs : List ℤ
  -- the numbers of all cells after the tick
  pub cells : List ℤ
  -- how many statements `bl_tick` executed
  pub count : ℕ

-- `bl_tick` answers 1 where the run has ended
abbrev pub reply_of : Option ℤ → Reply
reply_of None = trapped
reply_of (Some n) = if int_eq n (pos 1) then ended else row

-- the tick that a call of `bl_tick` was
abbrev pub tick_of : Parts → CallResult → TickOfFile
tick_of file c = record {
  reply = reply_of c.result;
  outputs = outputs_in (ports_of (codes "bl_out") file) c.memory;
  cells = numbers_of (cells_of file) c.memory;
  count = c.count;
}

-- one tick: the cells have these numbers, the inputs are set to those of the row, and `bl_tick` is called
unfoldable pub tick_c : Parts → List ℤ → List ℤ → TickOfFile
tick_c file cells ins =
    tick_of file (call_from_outside file (codes "bl_tick") (object state_object ∷ object input_object ∷ object output_object ∷ [])
    (with_inputs (ports_of (codes "bl_in") file) ins (memory_of (cells_of file) cells)))

-- the start: `bl_init` is called where everything is 0
unfoldable pub started : Parts → CallResult
started file = call_from_outside file (codes "bl_init") (object state_object ∷ []) cleared

-- whether the start doesn't trap
abbrev pub start_succeeds : Parts → Bool
start_succeeds file = is_some (started file).result

-- the numbers of all cells after the start, also where it has trapped
abbrev pub start_cells : Parts → List ℤ
start_cells file = numbers_of (cells_of file) (started file).memory

-- the numbers from which ticks go on: none where the start has trapped
abbrev pub cells_if : Bool → List ℤ → Option (List ℤ)
cells_if false cells = None
cells_if true cells = Some cells

-- the numbers of the cells before the first tick: none where the start traps
abbrev pub start_c : Parts → Option (List ℤ)
start_c file = cells_if (start_succeeds file) (start_cells file)

-- the trace that begins with a tick, where `rest` is that of the further ticks
abbrev pub traced : Reply → List ℤ → Trace → Trace
traced trapped outputs rest = record { rows = []; last = Trap }
traced ended outputs rest = record { rows = outputs ∷ []; last = Ended }
traced row outputs rest = record { rows = outputs ∷ rest.rows; last = rest.last }

-- the trace over rows of inputs that goes on from these numbers of the cells
abbrev pub c_trace_from : Parts → List (List ℤ) → List ℤ → Trace
c_trace_from file [] cells = record { rows = []; last = Open }
c_trace_from file (ins ∷ rest) cells =
    let t : TickOfFile = tick_c file cells ins in
    traced t.reply t.outputs (c_trace_from file rest t.cells)

-- the trace of a file whose start has trapped: the first tick traps
abbrev pub trapped_at_start : List (List ℤ) → Trace
trapped_at_start [] = record { rows = []; last = Open }
trapped_at_start (ins ∷ rest) = record { rows = []; last = Trap }

-- the trace that goes on from these numbers, where the start has left some
abbrev pub trace_after : Parts → Option (List ℤ) → List (List ℤ) → Trace
trace_after file None rows = trapped_at_start rows
trace_after file (Some cells) rows = c_trace_from file rows cells

-- the trace of a file over rows of inputs
abbrev pub c_trace : Parts → List (List ℤ) → Trace
c_trace file rows = trace_after file (start_c file) rows

-- the numbers of the cells after rows that leave the run open
abbrev pub cells_after : Parts → List (List ℤ) → List ℤ → List ℤ
cells_after file [] cells = cells
cells_after file (ins ∷ rest) cells = cells_after file rest (tick_c file cells ins).cells

-- a trace and the one that goes on from it
abbrev pub trace_then : Trace → Trace → Trace
trace_then first rest = record { rows = first.rows ++ rest.rows; last = rest.last }
