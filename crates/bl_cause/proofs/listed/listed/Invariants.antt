use Rattle.std.proofs.Common.{◌≡◌, ◌++◌, take}
use Rattle.bl_graph.specs.Accesses.{flows, writers_of}
use Rattle.bl_cause.proofs.listed.listed.Given as goal

abbrev pub invariant-loop-edge : goal.invariant-loop-edge
invariant-loop-edge l = l.edges ≡ take l.edge-index l.kept.control.now

abbrev pub invariant-loop-access : goal.invariant-loop-access
invariant-loop-access l = record {
  writers : l.writers ≡ writers_of (take l.access-index l.kept.accesses.now);
  edges : l.edges ≡ l.kept.control.now ++ flows (take l.access-index l.kept.accesses.now);
}
