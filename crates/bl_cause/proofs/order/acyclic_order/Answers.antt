use Rattle.std.proofs.Common.{◌++◌}
use Rattle.bl_graph.specs.Accesses.{flows}
use Rattle.bl_cause.proofs.RankLemmas.{ranks_seen}
use Rattle.bl_cause.proofs.order.acyclic_order.Goals as goal

pub returns-then-is_order-clause-some : goal.returns-then-is_order-clause-some
returns-then-is_order-clause-some c =
    ranks_seen c.args.graph.now.edges (c.kept.result.control.now ++ flows c.kept.result.accesses.now) c.in_ok-swept.swept c.deref.result.now
    c.kept.ensures c.deref.ensures (c.in_ok-is_order.ensures c.if-is_order.true)
