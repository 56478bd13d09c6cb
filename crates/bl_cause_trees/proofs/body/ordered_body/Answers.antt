use Rattle.std.proofs.Common.{◌≡◌, subst, sym}
use Rattle.bl_graph.specs.declared.tick_graph.Graph.{Graph}
use Rattle.bl_graph.specs.Graph.{IsTickGraph}
use Rattle.bl_graph_nodes.specs.Plain.{plain_body}
use Rattle.bl_cause_trees.specs.declared.body.Ordered.{Ordered}
use Rattle.bl_cause_trees.proofs.Results.{if_ok}
use Rattle.bl_cause_trees.proofs.body.ordered_body.Goals as goal

pub returns-in-Ok-None-clause-graph : goal.returns-in-Ok-None-clause-graph
returns-in-Ok-None-clause-graph c =
    if_ok c.by_rules.result (λ (made : Ordered). made.graph ≡ c.in-Ok.graph)
    (λ (made : Ordered). IsTickGraph (plain_body c.args.body.now) made.graph.nodes made.graph.edges)
    (λ made same. subst (λ (it : Graph). IsTickGraph (plain_body c.args.body.now) it.nodes it.edges) (sym same) c.in-Ok.ensures)
    c.by_rules.ensures.same

pub returns-in-Ok-None-clause-cause : goal.returns-in-Ok-None-clause-cause
returns-in-Ok-None-clause-cause c = c.by_rules.ensures.cause c.args.body.now c.in-Ok.ensures

pub returns-in-Ok-Some-clause-order : goal.returns-in-Ok-Some-clause-order
returns-in-Ok-Some-clause-order c = rw c.in-Ok-Some.field-0-is at c.in-Ok-Some.ensures.some
