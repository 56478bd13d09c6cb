use Rattle.std.proofs.Common.{List, ◌-◌}
use Rattle.bl_graph.specs.Accesses.{writers_of}
use Rattle.bl_graph.specs.inner.Found.{links_to}
use Rattle.bl_graph.specs.inner.Gains.{Gains}
use Rattle.bl_graph.specs.inner.Noted.{HasNotesAndFronts, Note}
use Rattle.bl_graph.proofs.flow.find_all.Given as goal

abbrev pub invariant-loop-i : goal.invariant-loop-i
invariant-loop-i l = (ns : List Note) → HasNotesAndFronts (writers_of l.initial.accesses) l.notes ns
    → Gains l.initial.accesses l.accesses (links_to ns l.nodes l.deep l.fn.span.first (l.i - l.fn.span.first))
