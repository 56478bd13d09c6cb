use Rattle.bl_graph.proofs.Ending.{graph_joins, graph_shows}
use Rattle.bl_graph.proofs.graph.graph_of_body.Goals as goal

pub invariant_of-result : goal.invariant_of-result
invariant_of-result c = record {
  joins_nodes = graph_joins c.args.body.now c.in_ok-made.made c.new.result c.new-2.result c.block.new.links c.new.ensures c.new-2.ensures
      c.in_ok-made.ensures c.in_ok-nodes.nodes c.new-edges.result c.deref.result.now c.in_ok-nodes.ensures c.deref.ensures c.new-edges.ensures;
}

pub returns : goal.returns
returns c =
    graph_shows c.nodes_differ.ensures c.args.body.now c.in_ok-made.made c.new.result c.new-2.result c.block.new.links c.new.ensures c.new-2.ensures
    c.in_ok-made.ensures c.in_ok-nodes.nodes c.new-edges.result c.deref.result.now c.in_ok-nodes.ensures c.deref.ensures c.new-edges.ensures
