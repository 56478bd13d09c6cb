use Rattle.std.proofs.Common.{◌≡◌, map, take}
use Rattle.bl_graph.proofs.graph.shown_nodes.Given as goal

abbrev pub invariant-loop-flow : goal.invariant-loop-flow
invariant-loop-flow l = l.nodes ≡ map (λ flow. flow.node) (take l.flow-index l.flows)
