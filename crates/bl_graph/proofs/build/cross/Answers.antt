use Rattle.std.proofs.Common.{◌∙◌, ◌++◌, [], ap, map, subst}
use Rattle.std.proofs.lemmas.Result.{on_ok_weaker}
use Rattle.bl_graph.specs.Accesses.{flows}
use Rattle.bl_graph.specs.inner.Flows.{FlowsAdded}
use Rattle.bl_graph.specs.inner.Parts.{shifted}
use Rattle.bl_graph.proofs.build.cross.Goals as goal

pub returns : goal.returns
returns c =
    let found = flows c.in_ok-accesses.accesses in
    on_ok_weaker c.append.result (λ is. record {
      found = found;
      adds = subst (λ nodes. FlowsAdded nodes c.args.made.now.spans [] found) c.deref.ensures
          (subst (λ spans. FlowsAdded c.deref.result.now spans [] found) c.deref-2.ensures c.in_ok-accesses.ensures);
      grows = is ∙ ap (λ accesses. c.args.edges.now ++ map (shifted c.args.first) (flows accesses)) c.deref-3.ensures;
    }) c.append.ensures
