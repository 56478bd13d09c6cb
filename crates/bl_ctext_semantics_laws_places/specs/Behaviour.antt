-- What there is to know of a C file, from outside.
use Rattle.std.specs.Prelude.{ℕ, ℤ, List, map, Option}
use Rattle.bl_tree.specs.declared.row.Column.{Column}
use Rattle.bl_tree.specs.declared.row.Trace.{Trace}
use Rattle.bl_ctext_semantics.specs.Cells.{Cell, cells_of, inputs_of, outputs_of}
use Rattle.bl_ctext_semantics.specs.Cost.{tick_bound}
use Rattle.bl_ctext_semantics.specs.Faults.{Clause, faults_in}
use Rattle.bl_ctext_semantics.specs.Parts.{Parts}
use Rattle.bl_ctext_semantics.specs.Sizes.{cells_needed}
use Rattle.bl_ctext_semantics.specs.Trace.{TickOfFile, c_trace, start_c, start_cells, tick_c}

-- how a file behaves
pub record Behaviour : Type 0 where
  -- the columns of the input rows and those of the trace
  pub inputs : List Column
  pub outputs : List Column
  -- the scalars of the three objects, and how many cells the file needs while it runs
  pub cells : List Cell
  pub needed : ℕ
  -- no tick executes more statements than this
  pub bound : ℕ
  -- the numbers of all cells after the start, and those from which ticks go on: none where the start has trapped
  pub started : List ℤ
  pub start : Option (List ℤ)
  -- a tick by the numbers of the cells before it and a row of inputs
  pub tick : List ℤ → List ℤ → TickOfFile
  -- the trace over rows of inputs
  pub trace : List (List ℤ) → Trace

-- the behaviour of a file
abbrev pub behaviour_of : Parts → Behaviour
behaviour_of file = record {
  inputs = inputs_of file;
  outputs = outputs_of file;
  cells = cells_of file;
  needed = cells_needed file;
  bound = tick_bound file;
  started = start_cells file;
  start = start_c file;
  tick = tick_c file;
  trace = c_trace file;
}

-- the clauses that fail in a file, each as often as it fails, in the order of its parts
abbrev pub clauses_failing : Parts → List Clause
clauses_failing file = map (λ fault. fault.clause) (faults_in file)
