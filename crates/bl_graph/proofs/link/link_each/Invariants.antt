use Rattle.std.proofs.Common.{◌≡◌, ◌++◌, take}
use Rattle.bl_graph.specs.inner.Parts.{links_each}
use Rattle.bl_graph.proofs.link.link_each.Given as goal

abbrev pub invariant-loop-out : goal.invariant-loop-out
invariant-loop-out l = l.control ≡ l.initial.control ++ links_each (take l.out-index l.outs) l.to
