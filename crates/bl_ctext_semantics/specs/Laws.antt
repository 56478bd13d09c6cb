-- What holds of every C file and every run of it.
use Rattle.std.specs.Prelude.{◌≡◌, ◌≤◌, ℤ, List, ◌++◌}
use Rattle.bl_tree.specs.declared.row.Last.TheVariants.{Open}
use Rattle.bl_ctext_semantics.specs.Parts.{Parts}
use Rattle.bl_ctext_semantics.specs.Trace.{tick_c, c_trace_from, cells_after, trace_then}
use Rattle.bl_ctext_semantics.specs.Cost.{tick_bound}

-- no tick executes more statements than the bound, one that traps or ends included
abbrev pub WithinBound : Parts → Type 0
WithinBound file = (cells ins : List ℤ) → (tick_c file cells ins).count ≤ tick_bound file

-- a run can be continued: the trace over all rows is the first one, followed by that from the cells that the first rows leave
abbrev pub TraceResumes : Parts → Type 0
TraceResumes file = (first rest : List (List ℤ)) (cells : List ℤ) → (c_trace_from file first cells).last ≡ Open →
    c_trace_from file (first ++ rest) cells ≡ trace_then (c_trace_from file first cells) (c_trace_from file rest (cells_after file first cells))
