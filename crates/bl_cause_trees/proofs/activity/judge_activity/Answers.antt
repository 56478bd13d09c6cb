use Rattle.std.proofs.Common.{subst}
use Rattle.bl_graph.specs.Graph.{IsTickGraph}
use Rattle.bl_graph_nodes.specs.Plain.{plain_body}
use Rattle.bl_cause_trees.specs.inner.Judging.{IsCauseInBody}
use Rattle.bl_cause_trees.proofs.Judged.{own_is_peeled}
use Rattle.bl_cause_trees.proofs.activity.judge_activity.Goals as goal

pub returns-in-Ok-clause-peeled : goal.returns-in-Ok-clause-peeled
returns-in-Ok-clause-peeled c =
    own_is_peeled c.args.unit.now c.in-Ok.ordered.graph c.in-Ok.ordered.order
    (subst (λ body. IsTickGraph (plain_body body) c.in-Ok.ordered.graph.nodes c.in-Ok.ordered.graph.edges) c.deref.ensures c.in-Ok.ensures.graph)
    c.in-Ok.ensures.order

pub returns-in-Ok-clause-graph : goal.returns-in-Ok-clause-graph
returns-in-Ok-clause-graph c =
    subst (λ body. IsTickGraph (plain_body body) c.in-Ok.ordered.graph.nodes c.in-Ok.ordered.graph.edges) c.deref.ensures c.in-Ok.ensures.graph

pub judged_again-requires-clause-own : goal.judged_again-requires-clause-own
judged_again-requires-clause-own c = subst (λ body. IsCauseInBody body c.in-Err.own) c.deref.ensures c.in-Err.ensures.cause
