use Rattle.bl_cause.proofs.RankLemmas.{ranks_made}
use Rattle.bl_cause.proofs.order.order_of.Goals as goal

pub returns : goal.returns
returns c =
    ranks_made c.args.edges.now c.count_of-count.result c.in_ok-order.order.items c.deref.result.now c.in_ok-ranks.ranks c.in_ok-ranks.ensures
    c.deref.ensures.value
    c.count_of-count.ensures.ends c.requires c.in_ok-order.ensures.sorted c.in_ok-order.ensures.nodes c.in_ok-order.ensures.all
