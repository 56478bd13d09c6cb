use Rattle.std.proofs.Common.{◌≡◌, ◌∷◌, ◌++◌, [], List, rules, refl, subst, sym, ap, ◌∙◌, Option}
use Rattle.std.proofs.lemmas.Result.{IfOk-weaker}
use Rattle.bl_tree.specs.declared.c.CStmt.{CStmt}
use Rattle.bl_ctext_semantics.specs.inner.Maps.{text_at}
use Rattle.bl_simplify_laws.specs.Splits.{branch, if_stmt}
use Rattle.bl_simplify_laws.specs.Written.{loop_stmt}
use Rattle.bl_simplify_live.specs.Reads.{LivesAs, if_there}
use Rattle.bl_simplify_live.proofs.Lives.{lives_copied, lives_if, lives_loop, lives_next, lives_nothing}
use Rattle.bl_simplify_live.proofs.dead.+dropping.Goals as goal

pub live_block-returns-then-fuel-eq0 : goal.live_block-returns-then-fuel-eq0
live_block-returns-then-fuel-eq0 t c =
    IfOk-weaker c.block.result _ _
    (λ copy is. subst (LivesAs (text_at c.args.read.now) c.args.block.now) (sym is)
    (lives_copied c.live_blocks.ensures.empty c.live_blocks.ensures.blocks c.live_stmts.ensures.itself (text_at c.args.read.now) c.args.block.now))
    c.block.ensures

pub live_block-loop-stmt-preserved : goal.live_block-loop-stmt-preserved
live_block-loop-stmt-preserved t c =
    lives_next c.live_blocks.ensures.blocks (text_at c.args.read.now) c.args.block.now c.loop-stmt.stmt-index c.stmt-item.result c.loop-stmt.new _ _
    c.loop-stmt-test.true c.stmt-item.is c.loop-stmt.invariant c.in_ok-kept.ensures c.in_ok-with_front.ensures

pub live_if-returns-then-is_total : goal.live_if-returns-then-is_total
live_if-returns-then-is_total t c =
    let none : c.in_ok-block.block ≡ [] = search rules in
    let nothing : c.in_ok-other.other ≡ [] = search rules in
    lives_nothing c.live_stmts.ensures.either (text_at c.args.read.now) c.args.it.now.place c.args.it.now.condition.now c.args.it.now.block.now
    c.args.it.now.other.now (c.is_total.ensures c.if-is_total.true)
    (subst (LivesAs (text_at c.args.read.now) c.args.it.now.block.now) none c.in_ok-block.ensures)
    (subst (λ (b : List CStmt). LivesAs (text_at c.args.read.now) b []) c.branch_of.ensures
    (subst (LivesAs (text_at c.args.read.now) c.branch_of.result.now) nothing c.in_ok-other.ensures))

pub live_if-returns : goal.live_if-returns
live_if-returns t c =
    let at = c.args.it.now.place in
    let test = c.args.it.now.condition.now in
    let more = c.args.it.now.other.now in
    let other : LivesAs (text_at c.args.read.now) (branch more) c.in_ok-other.other =
    subst (λ (b : List CStmt). LivesAs (text_at c.args.read.now) b c.in_ok-other.other) c.branch_of.ensures c.in_ok-other.ensures in
    subst (λ (s : CStmt). LivesAs (text_at c.args.read.now) (if_stmt at test c.args.it.now.block.now more ∷ []) (s ∷ [])) (sym c.in_ok-if_of.ensures)
    (lives_if c.live_stmts.ensures.branches (text_at c.args.read.now) at at test c.args.it.now.block.now c.in_ok-block.block more c.in_ok-other.other
    c.in_ok-block.ensures other)

pub live_loop-returns : goal.live_loop-returns
live_loop-returns t c =
    let it = c.args.it.now in
    IfOk-weaker c.loop_of.result _ _
    (λ made is. subst (λ (s : CStmt). LivesAs (text_at c.args.read.now) (loop_stmt it.place it.turn.now it.condition.now it.body.now ∷ []) (s ∷ []))
    (sym is)
    (lives_loop c.live_stmts.ensures.turns (text_at c.args.read.now) it.place it.place it.turn.now it.turn.now it.condition.now it.body.now
    c.in_ok-body.body c.in_ok-body.ensures))
    c.loop_of.ensures
