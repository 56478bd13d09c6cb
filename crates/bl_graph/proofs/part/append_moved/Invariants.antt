use Rattle.std.proofs.Common.{◌≡◌, ◌++◌, map}
use Rattle.bl_graph.specs.inner.Parts.{moved_flow}
use Rattle.bl_graph.proofs.part.append_moved.Given as goal

abbrev pub invariant-loop-flow : goal.invariant-loop-flow
invariant-loop-flow l = l.into ≡ l.initial.into ++ map (moved_flow l.entry) l.yielded
