use Rattle.std.proofs.Common.{◌∙◌, ap, map, sym}
use Rattle.bl_tree.proofs.Basics.{drop_next}
use Rattle.bl_tree.specs.Reduce.{joined}
use Rattle.bl_types.specs.Failures.{noted}
use Rattle.bl_types.specs.Returns.{strays_in, strays_in_arm, strays_in_branch}
use Rattle.bl_types.proofs.NoteLemmas.{joined_noted, then_noted}
use Rattle.bl_types.proofs.StrayLemmas.{arm_strays, branch_strays, if_strays}
use Rattle.bl_types.proofs.returns.+strays.Goals as goal

pub strays_in-returns-in-If : goal.strays_in-returns-in-If
strays_in-returns-in-If t c =
    then_noted c.args.notes.now c.strays_in_arms.new.notes c.strays_in_block.new.notes
    (joined (map strays_in_arm c.deref.result.now)) (joined (map strays_in c.deref-in-If.result.now))
    (strays_in c.args.s.now) c.strays_in_arms.ensures
    (if_strays c.args.s.now c.in-If.all c.deref.result.now c.in-If.other c.deref-in-If.result.now c.in-If.is c.deref.ensures
    c.deref-in-If.ensures) c.strays_in_block.ensures

pub strays_in_arms-loop-arm-preserved : goal.strays_in_arms-loop-arm-preserved
strays_in_arms-loop-arm-preserved t c =
    let arm = c.arm-item.result in
    joined_noted strays_in_arm _ _ arm c.loop-arm.notes c.strays_in_block.new.notes _
    (drop_next c.args.all.now c.loop-arm.arm-index arm c.loop-arm-test.true c.arm-item.is)
    (c.strays_in_block.ensures ∙ ap (λ body. noted c.loop-arm.notes (joined (map strays_in body))) c.deref.ensures
    ∙ ap (noted c.loop-arm.notes) (sym (arm_strays arm))) c.loop-arm.invariant

pub strays_in_block-loop-s-preserved : goal.strays_in_block-loop-s-preserved
strays_in_block-loop-s-preserved t c =
    joined_noted strays_in _ _ c.s-item.result c.loop-s.notes c.strays_in.new.notes _
    (drop_next c.args.body.now c.loop-s.s-index c.s-item.result c.loop-s-test.true c.s-item.is) c.strays_in.ensures c.loop-s.invariant

pub strays_in_branches-loop-branch-preserved : goal.strays_in_branches-loop-branch-preserved
strays_in_branches-loop-branch-preserved t c =
    let branch = c.branch-item.result in
    joined_noted strays_in_branch _ _ branch c.loop-branch.notes c.strays_in_block.new.notes _
    (drop_next c.args.all.now c.loop-branch.branch-index branch c.loop-branch-test.true c.branch-item.is)
    (c.strays_in_block.ensures ∙ ap (λ body. noted c.loop-branch.notes (joined (map strays_in body))) c.deref.ensures
    ∙ ap (noted c.loop-branch.notes) (sym (branch_strays branch))) c.loop-branch.invariant
