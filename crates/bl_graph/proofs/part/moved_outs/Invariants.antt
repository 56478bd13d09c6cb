use Rattle.std.proofs.Common.{◌≡◌, map, take}
use Rattle.bl_graph.specs.inner.Parts.{moved_out}
use Rattle.bl_graph.proofs.part.moved_outs.Given as goal

abbrev pub invariant-loop-out : goal.invariant-loop-out
invariant-loop-out l = l.moved ≡ map (moved_out l.entry) (take l.out-index l.outs)
