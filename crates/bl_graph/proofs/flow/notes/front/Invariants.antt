use Rattle.std.proofs.Common.{◌≡◌, take}
use Rattle.bl_graph.proofs.flow.notes.front.Given as goal

abbrev pub invariant-loop-k : goal.invariant-loop-k
invariant-loop-k l = l.fields ≡ take l.k l.path.fields
