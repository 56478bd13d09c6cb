use Rattle.std.proofs.Common.{◌∙◌, ◌++◌, ap, length, map, subst, sym}
use Rattle.std.proofs.lemmas.Result.{on_ok_weaker}
use Rattle.bl_graph.specs.Accesses.{flows}
use Rattle.bl_graph.specs.inner.Needed.{AreNeeded}
use Rattle.bl_graph.specs.inner.Parts.{shifted}
use Rattle.bl_graph.proofs.accesses.DataEdges.append.Goals as goal

pub append_needed-requires-clause-size : goal.append_needed-requires-clause-size
append_needed-requires-clause-size c = ap length c.deref.ensures ∙ c.in_ok-needed.ensures.size

pub append_needed-requires-clause-needed : goal.append_needed-requires-clause-needed
append_needed-requires-clause-needed c = subst (AreNeeded c.args.accesses.now 0) (sym c.deref.ensures) c.in_ok-needed.ensures.needed

pub returns : goal.returns
returns c =
    on_ok_weaker c.append_needed.result (λ is. is
    ∙ ap (λ edges. edges ++ map (shifted c.args.first) (flows c.args.accesses.now)) c.self.view_is) c.append_needed.ensures
