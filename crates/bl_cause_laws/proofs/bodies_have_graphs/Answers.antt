use Rattle.bl_cause_laws.proofs.Placing.{bodies_have_graphs}
use Rattle.bl_cause_laws.proofs.bodies_have_graphs.Goals as goal

pub returns : goal.returns
returns c = bodies_have_graphs c.nodes_differ.ensures c.graphs_stay_within.ensures c.edges_are_listed.ensures c.flows_are_listed.ensures
