use Rattle.bl_graph.specs.inner.Noted.{Noting, fronts_to}
use Rattle.bl_graph.proofs.flow.notes.ByPath.note_fronts.Given as goal

abbrev pub invariant-loop-k : goal.invariant-loop-k
invariant-loop-k l = Noting l.initial.accesses l.accesses l.initial.self l.self (fronts_to l.node l.path l.k)
