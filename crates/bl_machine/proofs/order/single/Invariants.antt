use Rattle.std.proofs.Common.{◌≡◌, ◌∷◌, [], ◌++◌, map, drop}
use Rattle.bl_machine.proofs.order.single.Given as goal

abbrev pub invariant-loop-node : goal.invariant-loop-node
invariant-loop-node l = l.blocks ++ map (λ node. node ∷ []) (drop l.node-index l.nodes) ≡ map (λ node. node ∷ []) l.nodes
