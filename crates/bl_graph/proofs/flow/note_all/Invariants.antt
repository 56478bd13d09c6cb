use Rattle.std.proofs.Common.{◌-◌}
use Rattle.bl_graph.specs.inner.Found.{writes_to}
use Rattle.bl_graph.specs.inner.Noted.{NotingAll}
use Rattle.bl_graph.proofs.flow.note_all.Given as goal

abbrev pub invariant-loop-i : goal.invariant-loop-i
invariant-loop-i l = NotingAll l.initial.accesses l.accesses l.initial.notes l.notes (writes_to l.nodes l.deep l.fn.span.first (l.i - l.fn.span.first))
