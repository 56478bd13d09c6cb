use Rattle.std.proofs.Common.{◌≡◌, ◌++◌, drop}
use Rattle.bl_graph.specs.inner.Parts.{depth_links}
use Rattle.bl_graph.proofs.link.link_depth.Given as goal

abbrev pub invariant-loop-out : goal.invariant-loop-out
invariant-loop-out l = l.control ++ depth_links (drop l.out-index l.outs) l.to ≡ l.initial.control ++ depth_links l.outs l.to
