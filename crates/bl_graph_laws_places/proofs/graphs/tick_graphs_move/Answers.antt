use Rattle.bl_graph_laws_places.proofs.GraphsMoved.{tick_graphs_move}
use Rattle.bl_graph_laws_places.proofs.Plains.{plain_bodies_move}
use Rattle.bl_graph_laws_places.proofs.graphs.tick_graphs_move.Goals as goal

pub returns-clause-plain : goal.returns-clause-plain
returns-clause-plain c = plain_bodies_move

pub returns-clause-graphs : goal.returns-clause-graphs
returns-clause-graphs c = tick_graphs_move
