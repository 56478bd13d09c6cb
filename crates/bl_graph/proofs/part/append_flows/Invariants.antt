use Rattle.std.proofs.Common.{◌≡◌, ◌++◌}
use Rattle.bl_graph.proofs.part.append_flows.Given as goal

abbrev pub invariant-loop-flow : goal.invariant-loop-flow
invariant-loop-flow l = l.into ≡ l.initial.into ++ l.yielded
