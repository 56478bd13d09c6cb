use Rattle.std.proofs.Common.{◌≡◌, ◌++◌, IfOk, ap, sym, ◌∙◌, subst, drop, map}
use Rattle.bl_tree.proofs.Basics.{drop_next}
use Rattle.bl_conflict.proofs.ConflictLemmas.{arm_out, behind_is, branch_out, branch_step, front_is, grown_is, if_is, rest_is, still_within}
use Rattle.bl_conflict.proofs.FirstLemmas.{more-next, clash-next}
use Rattle.bl_tree.specs.Rules.{first_of}
use Rattle.bl_conflict.specs.inner.Failures.{all_clashes, parallel_of_arm, parallel_of_branch}
use Rattle.bl_conflict.proofs.RootLemmas.{known_both}
use Rattle.bl_conflict.specs.inner.Roots.{Knows}
use Rattle.bl_effects.specs.Rules.{parallel_of, together}
use Rattle.bl_conflict.proofs.conflict.+acts.Goals as goal

pub block-loop-s-preserved : goal.block-loop-s-preserved
block-loop-s-preserved t c =
    let s = c.s-item.result in
    let step = ap (map parallel_of) (drop_next c.args.body.now c.loop-s.s-index s c.loop-s-test.true c.s-item.is) in (
      rw c.in_ok-best.ensures.writes (more-next (λ p. p.writes) _ _ (parallel_of s) c.loop-s.writes _ step c.loop-s.invariant.0),
      rw c.in_ok-best.ensures.best (clash-next c.args.vars.now _ _ (parallel_of s) c.loop-s.best _ step c.loop-s.invariant.1),
    )

pub arms-loop-arm-preserved : goal.arms-loop-arm-preserved
arms-loop-arm-preserved t c =
    let arm = c.arm-item.result in
    let step = ap (map parallel_of_arm) (drop_next c.args.all.now c.loop-arm.arm-index arm c.loop-arm-test.true c.arm-item.is) in
    let body = ap (λ body. together (map parallel_of body)) c.deref.ensures ∙ sym (arm_out arm) in
    let writes = c.in_ok-best.ensures.writes ∙ ap (λ p. c.loop-arm.writes ++ p.writes) body in
    let best = c.in_ok-best.ensures.best ∙ ap (λ p. first_of c.loop-arm.best (all_clashes c.args.vars.now p.splits)) body in (
      rw writes (more-next (λ p. p.writes) _ _ (parallel_of_arm arm) c.loop-arm.writes _ step c.loop-arm.invariant.0),
      rw best (clash-next c.args.vars.now _ _ (parallel_of_arm arm) c.loop-arm.best _ step c.loop-arm.invariant.1),
    )

pub branches-clash-best-requires-clause-known : goal.branches-clash-best-requires-clause-known
branches-clash-best-requires-clause-known t c =
    let branch = c.branch-item.result in
    let x = parallel_of_branch branch in
    let body = ap (λ body. together (map parallel_of body)) c.deref.ensures ∙ sym (branch_out branch) in
    let writes : c.block.new.writes ≡ c.loop-branch.writes ++ x.writes = c.in_ok-best.ensures.writes ∙ ap (λ p. c.loop-branch.writes ++ p.writes) body in
    subst (Knows c.loop-branch.touched)
    (sym (front_is c.loop-branch.writes c.block.new.writes c.deref-in-loop-branch.result.now x.writes c.len-start.result
    c.len-mark.result writes c.deref-in-loop-branch.ensures c.len-mark.ensures))
    c.loop-branch.invariant.1.1.1

pub branches-loop-branch-preserved : goal.branches-loop-branch-preserved
branches-loop-branch-preserved t c =
    let branch = c.branch-item.result in
    let x = parallel_of_branch branch in
    let step = ap (map parallel_of_branch) (drop_next c.args.all.now c.loop-branch.branch-index branch c.loop-branch-test.true c.branch-item.is) in
    let body = ap (λ body. together (map parallel_of body)) c.deref.ensures ∙ sym (branch_out branch) in
    let writes : c.block.new.writes ≡ c.loop-branch.writes ++ x.writes = c.in_ok-best.ensures.writes ∙ ap (λ p. c.loop-branch.writes ++ p.writes) body in
    let best : c.in_ok-best.best ≡ first_of c.loop-branch.best (all_clashes c.args.vars.now x.splits) =
    c.in_ok-best.ensures.best ∙ ap (λ p. first_of c.loop-branch.best (all_clashes c.args.vars.now p.splits)) body in
    let known = known_both c.note.new.touched (drop c.len-start.result c.loop-branch.writes) x.writes
    (c.in_ok-note.ensures.keeps (drop c.len-start.result c.loop-branch.writes) c.loop-branch.invariant.1.1.1)
    (subst (Knows c.note.new.touched)
    (rest_is c.deref-in-loop-branch-2.result.now x.writes c.len-mark.result
    (behind_is c.loop-branch.writes c.block.new.writes c.deref-in-loop-branch-2.result.now x.writes c.len-mark.result writes
    c.deref-in-loop-branch-2.ensures c.len-mark.ensures))
    c.in_ok-note.ensures.knows) in (
      still_within c.loop-branch.writes c.block.new.writes x.writes c.len-start.result writes c.loop-branch.invariant.0,
      (
        rw writes (more-next (λ p. p.writes) _ _ x c.loop-branch.writes _ step c.loop-branch.invariant.1.0),
        (
          branch_step c.args.vars.now c.loop-branch.writes c.block.new.writes c.deref-in-loop-branch.result.now c.len-start.result
              c.len-mark.result _ _ x c.loop-branch.best c.in_ok-best.best c.clash-best.result _
              step writes c.deref-in-loop-branch.ensures c.len-mark.ensures c.loop-branch.invariant.0 best c.clash-best.ensures c.loop-branch.invariant.1.1.0,
          subst (Knows c.note.new.touched) (sym (grown_is c.loop-branch.writes c.block.new.writes x.writes c.len-start.result writes
              c.loop-branch.invariant.0)) known,
        ),
      ),
    )

pub statement-returns-in_ok-best-in-If-clause-best : goal.statement-returns-in_ok-best-in-If-clause-best
statement-returns-in_ok-best-in-If-clause-best t c =
    let first = ap (λ best. first_of best (all_clashes c.args.vars.now
    (together (map parallel_of c.deref-in-If-2.result.now)).splits)) c.in_ok-best-in-If.ensures.best in
    subst (λ x. IfOk c.block.result (λ found. found ≡ x))
    (first ∙ if_is c.args.vars.now c.args.s.now c.args.best c.deref-in-If.result.now c.in-If.all c.deref-in-If-2.result.now
    c.in-If.other c.in-If.is c.deref-in-If.ensures c.deref-in-If-2.ensures) c.block.ensures.best
