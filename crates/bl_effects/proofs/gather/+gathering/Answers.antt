use Rattle.std.proofs.Common.{◌&&◌, ◌||◌, not, cond, ◌++◌, ◌∷◌, [], map, ap, sym, ◌∙◌, subst, refl}
use Rattle.bl_tree.specs.declared.tree.Arm.{out-Arm}
use Rattle.bl_tree.specs.declared.tree.Branch.{out-Branch}
use Rattle.bl_tree.specs.Reduce.{all_of, joined}
use Rattle.bl_tree.specs.Effects.{reads, writes}
use Rattle.bl_effects.specs.inner.Gathered.{Gathers, ends_of_branch, instant_of_arm, reads_of_arm, reads_of_branch, writes_of_arm, writes_of_branch}
use Rattle.bl_tree.specs.Instant.{instant}
use Rattle.bl_effects.proofs.GatherLemmas.{all_step, any_step, arm_gathers, branch_gathers, branches_end, ends_branch_out, gathers_all, gathers_step}
use Rattle.bl_effects.proofs.GatherLemmas.{if_gathers, instant_arm_out, on_ok, singles, statement_gathers, until_gathers, when_gathers, while_gathers}
use Rattle.bl_effects.proofs.gather.+gathering.Goals as goal

pub block-loop-s-preserved : goal.block-loop-s-preserved
block-loop-s-preserved t c = (
  all_step instant c.args.body.now c.loop-s.s-index c.s-item.result c.loop-s.all _ c.loop-s-test.true c.s-item.is
      (ap (λ b. c.loop-s.all && b) c.in_ok-all.ensures.instant) c.loop-s.invariant.0,
  gathers_step reads writes (λ s. s ∷ []) c.args.body.now c.loop-s.s-index c.s-item.result c.args.paths.now c.loop-s.paths
      c.statement.new.paths c.args.table.now c.loop-s.table c.statement.new.table
      c.loop-s-test.true c.s-item.is c.loop-s.invariant.1 c.in_ok-all.ensures.gathers,
)

pub block-returns-clause-gathers : goal.block-returns-clause-gathers
block-returns-clause-gathers t c =
    subst (λ body. Gathers (joined (map reads c.args.body.now))
    (joined (map writes c.args.body.now)) body c.args.paths.now c.loop-s.paths c.args.table.now c.loop-s.table) (singles c.args.body.now)
    (gathers_all reads writes (λ s. s ∷ []) c.args.body.now c.loop-s.s-index c.args.paths.now c.loop-s.paths c.args.table.now
    c.loop-s.table c.loop-s-test.false c.loop-s.invariant.1)

pub branches-loop-branch-preserved : goal.branches-loop-branch-preserved
branches-loop-branch-preserved t c =
    let out = ends_branch_out c.branch-item.result in
    let weak = sym (ap (λ ends. ends.weak) out) in
    let ends = c.in_ok-ends.ensures.instant ∙ ap (λ body. all_of (map instant body)) c.deref.ensures ∙ sym (ap (λ ends. ends.instant) out) in (
      any_step (λ branch. not (ends_of_branch branch).weak) c.args.all.now c.loop-branch.branch-index c.branch-item.result
          c.loop-branch.is_strong _ c.loop-branch-test.true c.branch-item.is
          (ap (λ w. c.loop-branch.is_strong || not w) weak) c.loop-branch.invariant.0,
      all_step (λ branch. (ends_of_branch branch).weak || (ends_of_branch branch).instant) c.args.all.now c.loop-branch.branch-index
          c.branch-item.result c.loop-branch.strong _ c.loop-branch-test.true c.branch-item.is
          (λ i. c.loop-branch.strong && (weak i || ends i)) c.loop-branch.invariant.1,
      any_step (λ branch. (ends_of_branch branch).instant) c.args.all.now c.loop-branch.branch-index c.branch-item.result
          c.loop-branch.some _ c.loop-branch-test.true c.branch-item.is
          (ap (λ b. c.loop-branch.some || b) ends) c.loop-branch.invariant.2,
      gathers_step reads_of_branch writes_of_branch (λ branch. (out-Branch branch).body) c.args.all.now c.loop-branch.branch-index
          c.branch-item.result c.args.paths.now c.loop-branch.paths c.block.new.paths
          c.args.table.now c.loop-branch.table c.block.new.table c.loop-branch-test.true c.branch-item.is c.loop-branch.invariant.3
          (branch_gathers c.branch-item.result c.deref.result.now c.deref.ensures c.loop-branch.paths c.block.new.paths
          c.loop-branch.table c.block.new.table c.in_ok-ends.ensures.gathers),
    )

pub branches-returns-then-is_strong-clause-instant : goal.branches-returns-then-is_strong-clause-instant
branches-returns-then-is_strong-clause-instant t c =
    sym (ap (λ b. cond b c.loop-branch.strong c.loop-branch.some) c.if-is_strong.true)
    ∙ branches_end c.args.all.now c.loop-branch.branch-index c.loop-branch.is_strong c.loop-branch.strong c.loop-branch.some
    c.loop-branch-test.false c.loop-branch.invariant.0 c.loop-branch.invariant.1 c.loop-branch.invariant.2

pub branches-returns-else-is_strong-clause-instant : goal.branches-returns-else-is_strong-clause-instant
branches-returns-else-is_strong-clause-instant t c =
    sym (ap (λ b. cond b c.loop-branch.strong c.loop-branch.some) c.if-is_strong.false)
    ∙ branches_end c.args.all.now c.loop-branch.branch-index c.loop-branch.is_strong c.loop-branch.strong c.loop-branch.some
    c.loop-branch-test.false c.loop-branch.invariant.0 c.loop-branch.invariant.1 c.loop-branch.invariant.2

pub choices-loop-arm-preserved : goal.choices-loop-arm-preserved
choices-loop-arm-preserved t c = (
  any_step instant_of_arm c.args.arms.now c.loop-arm.arm-index c.arm-item.result c.loop-arm.some _ c.loop-arm-test.true c.arm-item.is
      (ap (λ b. c.loop-arm.some || b) (c.in_ok-some.ensures.instant ∙ ap (λ body. all_of (map instant body)) c.deref.ensures
      ∙ sym (instant_arm_out c.arm-item.result))) c.loop-arm.invariant.0,
  gathers_step reads_of_arm writes_of_arm (λ arm. (out-Arm arm).body) c.args.arms.now c.loop-arm.arm-index c.arm-item.result
      c.args.paths.now c.loop-arm.paths c.block.new.paths
      c.args.table.now c.loop-arm.table c.block.new.table c.loop-arm-test.true c.arm-item.is c.loop-arm.invariant.1
      (arm_gathers c.arm-item.result c.deref.result.now c.deref.ensures c.loop-arm.paths
      (record { reads = c.expr.new.into; writes = c.loop-arm.paths.writes }) c.block.new.paths c.loop-arm.table c.block.new.table
      c.in_ok-expr.ensures refl c.in_ok-some.ensures.gathers),
)

pub parts-returns-in_ok-rest-in-If-clause-gathers : goal.parts-returns-in_ok-rest-in-If-clause-gathers
parts-returns-in_ok-rest-in-If-clause-gathers t c =
    if_gathers c.args.what.now c.in-If.arms c.deref-in-If.result.now c.in-If.other c.deref-in-If-2.result.now c.in-If.is
    c.deref-in-If.ensures c.deref-in-If-2.ensures
    c.args.paths.now c.choices.new.paths c.block.new.paths c.args.table.now c.choices.new.table c.block.new.table
    c.in_ok-some-in-If.ensures.gathers c.in_ok-rest-in-If.ensures.gathers

pub parts-returns-in_ok-expr-in-When-clause-gathers : goal.parts-returns-in_ok-expr-in-When-clause-gathers
parts-returns-in_ok-expr-in-When-clause-gathers t c =
    on_ok _ _ c.block-in-When.result
    (when_gathers c.args.what.now c.in-When.field-0 c.in-When.e c.in-When.body c.deref-in-When.result.now c.in-When.is c.deref-in-When.ensures
    c.args.paths.now (record { reads = c.expr-in-When.new.into; writes = c.args.paths.now.writes }) c.block-in-When.new.paths
    c.args.table.now c.block-in-When.new.table c.in_ok-expr-in-When.ensures refl)
    c.block-in-When.ensures.gathers

pub parts-returns-in_ok-expr-in-Until-clause-gathers : goal.parts-returns-in_ok-expr-in-Until-clause-gathers
parts-returns-in_ok-expr-in-Until-clause-gathers t c =
    until_gathers c.args.what.now c.in-Until.e c.in-Until.body c.deref-in-Until.result.now c.in-Until.is c.deref-in-Until.ensures
    c.args.paths.now c.block-in-Until.new.paths (record {
      reads = c.expr-in-Until.new.into;
      writes =
          c.block-in-Until.new.paths.writes;
    }) c.args.table.now c.block-in-Until.new.table
    c.in_ok-ends-in-Until.ensures.gathers c.in_ok-expr-in-Until.ensures refl

pub parts-returns-in_ok-block-in-While-clause-gathers : goal.parts-returns-in_ok-block-in-While-clause-gathers
parts-returns-in_ok-block-in-While-clause-gathers t c =
    while_gathers c.args.what.now c.in-While.e c.in-While.body c.deref-in-While.result.now c.in-While.is c.deref-in-While.ensures
    c.args.paths.now (record { reads = c.expr-in-While.new.into; writes = c.args.paths.now.writes }) c.block-in-While.new.paths
    c.args.table.now c.block-in-While.new.table
    c.in_ok-expr-in-While.ensures refl c.in_ok-block-in-While.ensures.gathers

pub statement-returns-clause-gathers : goal.statement-returns-clause-gathers
statement-returns-clause-gathers t c =
    statement_gathers c.args.s.now (record { reads = c.set_of-reads.result; writes = c.set_of-writes.result; instant = c.in_ok-instant.instant })
    (record { reads = c.new.result; writes = c.new-2.result }) c.parts.new.paths c.args.paths.now
    (record { reads = c.append_copies.new.into; writes = c.append_copies-2.new.into })
    c.args.table.now c.parts.new.table c.insert.new.self c.in_ok-instant.ensures.gathers c.new.ensures c.new-2.ensures
    c.set_of-reads.ensures c.set_of-writes.ensures c.in_ok-instant.ensures.instant
    (c.in_ok-append_copies.ensures ∙ ap (λ xs. c.args.paths.now.reads ++ xs) c.deref.ensures)
    (c.in_ok-append_copies-2.ensures ∙ ap (λ xs. c.args.paths.now.writes ++ xs) c.deref-2.ensures)
    c.in_ok-insert.ensures
