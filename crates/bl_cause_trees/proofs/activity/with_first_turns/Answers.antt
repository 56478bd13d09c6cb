use Rattle.std.proofs.Common.{◌≡◌, ◌∷◌, [], Some, subst, sym}
use Rattle.bl_tree.specs.Rules.{IsCause}
use Rattle.bl_graph.specs.Graph.{IsTickGraph}
use Rattle.bl_graph_nodes.specs.Plain.{plain_body}
use Rattle.bl_cause.specs.Activities.{IsGraphOf}
use Rattle.bl_cause_trees.specs.declared.activity.Judged.{Judged}
use Rattle.bl_cause_trees.specs.inner.Judging.{IsCauseInBody, IsPeeledBy, with_body}
use Rattle.bl_cause_trees.specs.Rules.{Fails}
use Rattle.bl_cause_trees.proofs.Judged.{cause_by_peeled, first_by_peeled, has_walk, large_is_peeled, turned_is_peeled}
use Rattle.bl_cause_trees.proofs.Results.{if_err, if_ok, if_ok_both}
use Rattle.bl_cause_trees.proofs.activity.with_first_turns.Goals as goal

pub returns-in-Ok-clause-peeled : goal.returns-in-Ok-clause-peeled
returns-in-Ok-clause-peeled c =
    let unit = c.args.unit.now in
    if_ok c.by_body.result (λ (made : Judged). made.peeled ≡ Some c.in-Ok.body) (λ (made : Judged). IsPeeledBy unit made.peeled)
    (λ made is.
    subst (IsPeeledBy unit) (sym is)
    (turned_is_peeled unit c.in-Ok.body c.deref.result.now c.deref.ensures c.in-Ok.ensures.made c.requires.activity
    (has_walk unit c.args.rule c.args.place c.args.also c.requires.own) c.in-Ok.ensures.fits)) c.by_body.ensures.body

pub returns-in-Ok-clause-graph : goal.returns-in-Ok-clause-graph
returns-in-Ok-clause-graph c =
    let unit = c.args.unit.now in
    if_ok_both c.by_body.result (λ (made : Judged). made.peeled ≡ Some c.in-Ok.body)
    (λ (made : Judged). IsTickGraph (plain_body c.in-Ok.body) made.ordered.graph.nodes made.ordered.graph.edges)
    (λ (made : Judged). IsGraphOf (with_body unit made.peeled) made.ordered.graph)
    (λ made is graph. subst (λ it. IsGraphOf (with_body unit it) made.ordered.graph) (sym is) graph) c.by_body.ensures.body c.by_body.ensures.graph

pub returns-in-Ok-clause-cause : goal.returns-in-Ok-clause-cause
returns-in-Ok-clause-cause c =
    let unit = c.args.unit.now in
    if_err c.by_body.result (IsCauseInBody c.in-Ok.body) (IsCause (Fails (unit ∷ [])))
    (cause_by_peeled unit (with_body unit (Some c.in-Ok.body)) c.requires.activity
    (turned_is_peeled unit c.in-Ok.body c.deref.result.now c.deref.ensures c.in-Ok.ensures.made c.requires.activity
    (has_walk unit c.args.rule c.args.place c.args.also c.requires.own) c.in-Ok.ensures.fits)) c.by_body.ensures.cause

pub returns-in-Err-TooLarge-clause-cause : goal.returns-in-Err-TooLarge-clause-cause
returns-in-Err-TooLarge-clause-cause c =
    let unit = c.args.unit.now in
    let more = rw c.in-Err-TooLarge.field-0-is at c.in-Err-TooLarge.ensures.fault in
    first_by_peeled unit unit c.requires.activity (large_is_peeled unit c.deref.result.now c.deref.ensures more) c.args.rule c.args.place c.args.also
    c.requires.own
