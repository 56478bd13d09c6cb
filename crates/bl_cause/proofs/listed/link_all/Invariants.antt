use Rattle.std.proofs.Common.{◌≡◌, ◌++◌, take}
use Rattle.bl_graph.specs.Accesses.{links}
use Rattle.bl_cause.proofs.listed.link_all.Given as goal

abbrev pub invariant-loop-from : goal.invariant-loop-from
invariant-loop-from l = l.edges ≡ l.initial.edges ++ links l.to (take l.from-index l.nodes)
