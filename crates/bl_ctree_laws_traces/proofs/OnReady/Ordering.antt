-- Where no closed walk fails the rules Twice and Cycle, the tick graph of an activity has an order.
use Rattle.bl_tree.specs.declared.rule.Rule.TheVariants as rule
use Rattle.bl_cause.specs.Laws.{RulesLeaveNoWalk}
use Rattle.bl_cause_laws.specs.Orders.{BodiesHaveGraphs, UnwalkedHaveRanks}
use Rattle.bl_ctree_laws_traces.specs.Ready.Ordered.{UnitsAreOrdered}

pub units_are_ordered : BodiesHaveGraphs → RulesLeaveNoWalk → UnwalkedHaveRanks → UnitsAreOrdered
units_are_ordered graphs walks ranks units passes unit there activity =
    let has = graphs unit.body in
    let order = ranks has.graph.edges (walks has.graph
    (λ at also fails. passes rule.Twice at also
    (record { unit = unit; is_there = there; activity = activity; graph = has.graph; of_unit = has.is_graph; fails = fails }))
    (λ at also fails. passes rule.Cycle at also
    (record { unit = unit; is_there = there; activity = activity; graph = has.graph; of_unit = has.is_graph; fails = fails }))) in
    record { nodes = has.graph.nodes; edges = has.graph.edges; is_graph = has.is_graph; ranks = order.ranks; rises = order.rises }
