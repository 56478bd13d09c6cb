use Rattle.std.proofs.Common.{◌≡◌, ◌++◌, take}
use Rattle.bl_graph.specs.inner.Parts.{links_from}
use Rattle.bl_graph.proofs.link.link_from.Given as goal

abbrev pub invariant-loop-k : goal.invariant-loop-k
invariant-loop-k l = l.control ≡ l.initial.control ++ links_from l.from (take l.k-index l.to)
