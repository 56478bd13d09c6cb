use Rattle.std.proofs.Common.{take}
use Rattle.bl_graph.proofs.NeededLemmas.{Moving}
use Rattle.bl_graph.proofs.accesses.append_needed.Given as goal

abbrev pub invariant-loop-k : goal.invariant-loop-k
invariant-loop-k l = Moving l.first l.initial.into l.into (take l.k l.from) l.positions l.needed
