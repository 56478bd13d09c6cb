use Rattle.std.proofs.Common.{◌≡◌, ◌++◌, drop}
use Rattle.bl_graph.specs.inner.Parts.{links_all}
use Rattle.bl_graph.proofs.link.link_all.Given as goal

abbrev pub invariant-loop-k : goal.invariant-loop-k
invariant-loop-k l = l.control ++ links_all l.outs (drop l.k-index l.to) ≡ l.initial.control ++ links_all l.outs l.to
