use Rattle.std.proofs.Common.{◌≡◌, ◌<◌, ap, sym, subst, ◌∙◌, length, get_or, reverse, arith}
use Rattle.bl_cause.specs.Walks.{EdgeWalk}
use Rattle.bl_cause.proofs.StepLemmas.{back_more, blank}
use Rattle.bl_cause.proofs.way_back.walk_to.Goals as goal

pub loop-at-preserved : goal.loop-at-preserved
loop-at-preserved c =
    let lt : c.loop-at.at < length c.args.steps.now = omega (arith, c.loop-at.invariant.inside, c.requires.last) in
    let down = c.requires.earlier c.loop-at.at blank c.loop-at-test.true lt in
    record {
      inside = omega (arith, down, c.loop-at.invariant.inside);
      leads = λ edges first d tree.
          back_more edges first c.args.steps.now c.loop-at.at (get_or c.args.steps.now c.args.last d).edge.to c.loop-at.walk c.push.new.self d blank
          c.loop-at-test.true lt c.requires.earlier tree c.in_ok-push.ensures.ok (c.loop-at.invariant.leads edges first d tree);
    }

pub returns : goal.returns
returns c = λ edges first d tree.
    let start : c.loop-at.at ≡ 0 = omega (arith, c.loop-at-test.false) in
    let turned : c.reverse.new.self.items ≡ reverse c.loop-at.walk = c.reverse.ensures.items ∙ ap reverse c.into_vec-walk.ensures in
    subst (λ walk. EdgeWalk edges first.to walk (get_or c.args.steps.now c.args.last d).edge.to) (sym turned)
    (subst (λ edge. EdgeWalk edges edge.to (reverse c.loop-at.walk) (get_or c.args.steps.now c.args.last d).edge.to) (tree.begins d)
    (subst (λ at. EdgeWalk edges (get_or c.args.steps.now at d).edge.to (reverse c.loop-at.walk) (get_or c.args.steps.now c.args.last d).edge.to) start
    (c.loop-at.invariant.leads edges first d tree)))
