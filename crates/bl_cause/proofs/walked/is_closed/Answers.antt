use Rattle.std.proofs.Common.{◌++◌, map, nat_eq, refl, subst, take_all}
use Rattle.std.proofs.lemmas.Bool.{and_parts}
use Rattle.bl_tree.proofs.Basics.{same_number}
use Rattle.bl_graph.specs.Accesses.{flows}
use Rattle.bl_cause.specs.Walks.{EdgeWalk}
use Rattle.bl_cause.specs.inner.Walked.{edge_of}
use Rattle.bl_cause.proofs.WalkedLemmas.{passed_more}
use Rattle.bl_cause.proofs.walked.is_closed.Goals as goal

pub loop-passed-init : goal.loop-passed-init
loop-passed-init c = λ is. (c.is_edge-yes.ensures is, refl)

pub loop-passed-preserved : goal.loop-passed-preserved
loop-passed-preserved c = λ is.
    let both = and_parts c.loop-passed.yes c.goes_on-yes.result is in
    let so = c.loop-passed.invariant both.0 in (
      so.0,
      passed_more (c.args.kept.control.now ++ flows c.args.kept.accesses.now) c.args.first.edge.to c.loop-passed.at c.args.rest.now
          c.loop-passed.passed-index _ c.loop-passed-test.true so.1 (c.goes_on-yes.ensures.from both.1) (c.goes_on-yes.ensures.there both.1),
    )

pub returns : goal.returns
returns c is =
    let edges = c.args.kept.control.now ++ flows c.args.kept.accesses.now in
    let first = c.args.first.edge in
    let both = and_parts c.loop-passed.yes (nat_eq c.loop-passed.at first.from) is in
    let so = c.loop-passed.invariant both.0 in (
      so.0,
      subst (λ at. EdgeWalk edges first.to (map edge_of c.args.rest.now) at) (same_number c.loop-passed.at first.from both.1)
          (subst (λ walk. EdgeWalk edges first.to (map edge_of walk) c.loop-passed.at)
          (take_all c.loop-passed.passed-index c.args.rest.now c.loop-passed-test.false) so.1),
    )
