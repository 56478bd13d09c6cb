use Rattle.std.proofs.Common.{◌≡◌, ◌++◌, drop}
use Rattle.bl_graph.specs.inner.Parts.{surface_links}
use Rattle.bl_graph.proofs.link.link_surface.Given as goal

abbrev pub invariant-loop-out : goal.invariant-loop-out
invariant-loop-out l = l.control ++ surface_links (drop l.out-index l.outs) l.to ≡ l.initial.control ++ surface_links l.outs l.to
