use Rattle.std.proofs.Common.{◌≡◌, ◌+◌, drop, map}
use Rattle.bl_ctext_semantics.specs.Cost.{block_cost, cost_of_stmt}
use Rattle.bl_bound.specs.inner.Capped.{amount, capped, costs_in}
use Rattle.bl_bound.proofs.statements.+costing.Given as goal

abbrev pub invariant-of_block-loop-stmt : goal.invariant-of_block-loop-stmt
invariant-of_block-loop-stmt l =
    capped (amount l.cost + block_cost (map cost_of_stmt (drop l.stmt-index l.block)) (costs_in l.known))
    ≡ capped (block_cost (map cost_of_stmt l.block) (costs_in l.known))
