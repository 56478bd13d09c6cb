use Rattle.bl_rules_laws_orders.proofs.Rising.{orders_rise}
use Rattle.bl_rules_laws_orders.proofs.ranks.orders_rise.Goals as goal

pub returns : goal.returns
returns c =
    orders_rise c.nodes_have_keys.ensures c.graphs_stay_within.ensures c.graphs_are_found.ensures.graphs c.graphs_are_found.ensures.orders
    c.accepted_programs_are_orderly.ensures
