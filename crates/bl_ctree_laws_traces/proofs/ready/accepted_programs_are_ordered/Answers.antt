use Rattle.bl_ctree_laws_traces.proofs.OnReady.Ordering.{units_are_ordered}
use Rattle.bl_ctree_laws_traces.proofs.ready.accepted_programs_are_ordered.Goals as goal

pub returns : goal.returns
returns c = units_are_ordered c.bodies_have_graphs.ensures c.rules_leave_no_walk.ensures c.graphs_without_walks_have_ranks.ensures
