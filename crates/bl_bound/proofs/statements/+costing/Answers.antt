use Rattle.std.proofs.Common.{◌≡◌, ℕ, ◌+◌, ◌*◌, List, map, max, rules, ap, ◌∙◌}
use Rattle.bl_tree.specs.declared.c.CExpr.{CExpr}
use Rattle.bl_tree.specs.declared.c.CStmt.{CStmt}
use Rattle.bl_tree.specs.declared.c.CStmtKind.{the_lemmas}
use Rattle.bl_ctext_semantics.specs.Calls.{calls_in, calls_in_place}
use Rattle.bl_ctext_semantics.specs.Cost.{Costs, block_cost, cost_of_calls, cost_of_stmt}
use Rattle.bl_ctext_semantics.specs.Course.{turn_limit}
use Rattle.bl_bound.specs.inner.Capped.{capped, costs_in}
use Rattle.bl_bound.proofs.CapLemmas.{tell-both, tell-else, tell-if, tell-loop, tell-one}
use Rattle.bl_bound.proofs.CostLemmas.{block-done, block-next}
use Rattle.bl_bound.proofs.statements.+costing.Goals as goal

-- what is told of an expression in a box, and of a block in a list
of_boxed : (known : Costs) (told : ℕ) (inner boxed : CExpr) → told ≡ capped (cost_of_calls known (calls_in inner)) → inner ≡ boxed →
    told ≡ capped (cost_of_calls known (calls_in boxed))
of_boxed known told inner boxed h same = h ∙ ap (λ e. capped (cost_of_calls known (calls_in e))) same

of_listed : (known : Costs) (told : ℕ) (inner listed : List CStmt) → told ≡ capped (block_cost (map cost_of_stmt inner) known) → inner ≡ listed →
    told ≡ capped (block_cost (map cost_of_stmt listed) known)
of_listed known told inner listed h same = h ∙ ap (λ b. capped (block_cost (map cost_of_stmt b) known)) same

pub of_block-loop-stmt-preserved : goal.of_block-loop-stmt-preserved
of_block-loop-stmt-preserved t c =
    block-next (costs_in c.args.known.now) c.args.block.now c.loop-stmt.stmt-index c.stmt-item.result _ _ _ _ c.loop-stmt-test.true
    c.stmt-item.is c.of_stmt.ensures c.plus-cost.ensures c.loop-stmt.invariant

pub of_block-returns : goal.of_block-returns
of_block-returns t c =
    block-done (costs_in c.args.known.now) c.args.block.now c.loop-stmt.stmt-index c.loop-stmt.cost _ c.loop-stmt-test.false c.loop-stmt.invariant

pub of_stmt-returns-in-Set : goal.of_stmt-returns-in-Set
of_stmt-returns-in-Set t c =
    let known = costs_in c.args.known.now in
    let is : cost_of_stmt c.args.stmt.now known
    ≡ 1 + (cost_of_calls known (calls_in_place c.in-Set.place) + cost_of_calls known (calls_in c.in-Set.value)) = search (rules, the_lemmas) in
    tell-both _ _ _ _ _ _ _ c.in_place.ensures (of_boxed known _ _ _ c.in_expr.ensures c.deref.ensures) c.plus.ensures c.begun.ensures is

pub of_stmt-returns-in-Clear : goal.of_stmt-returns-in-Clear
of_stmt-returns-in-Clear t c =
    let known = costs_in c.args.known.now in
    let is : cost_of_stmt c.args.stmt.now known ≡ 1 + cost_of_calls known (calls_in_place c.in-Clear.place) = search (rules, the_lemmas) in
    tell-one _ _ _ _ (c.in_place-in-Clear.ensures ∙ ap (λ p. capped (cost_of_calls known (calls_in_place p))) c.deref-in-Clear.ensures)
    c.begun-in-Clear.ensures is

pub of_stmt-returns-in-If-default-default-None : goal.of_stmt-returns-in-If-default-default-None
of_stmt-returns-in-If-default-default-None t c =
    let known = costs_in c.args.known.now in
    let is : cost_of_stmt c.args.stmt.now known
    ≡ 1 + (cost_of_calls known (calls_in c.in-If-default-default-None.condition)
    + max (block_cost (map cost_of_stmt c.in-If-default-default-None.block) known) 0) = search (rules, the_lemmas) in
    tell-if _ _ _ _ _ _ _
    (of_boxed known _ _ _ c.in_expr-in-If-default-default-None.ensures c.deref-in-If-default-default-None.ensures)
    (of_listed known _ _ _ c.of_block.ensures c.deref-in-If-default-default-None-2.ensures)
    c.plus-in-If-default-default-None.ensures c.begun-in-If-default-default-None.ensures is

pub of_stmt-returns-in-If-default-default-Some : goal.of_stmt-returns-in-If-default-default-Some
of_stmt-returns-in-If-default-default-Some t c =
    let known = costs_in c.args.known.now in
    let is : cost_of_stmt c.args.stmt.now known
    ≡ 1 + (cost_of_calls known (calls_in c.in-If-default-default-Some.condition)
    + max (block_cost (map cost_of_stmt c.in-If-default-default-Some.block) known)
    (block_cost (map cost_of_stmt c.in-If-default-default-Some.other) known)) = search (rules, the_lemmas) in
    let same : c.deref-in-If-default-default-Some-2.result.now ≡ c.in-If-default-default-Some.other = search rules in
    tell-else _ _ _ _ _ _ _ _ _ _
    (of_boxed known _ _ _ c.in_expr-in-If-default-default-Some.ensures c.deref-in-If-default-default-Some-3.ensures)
    (of_listed known _ _ _ c.of_block-in-If-default-default-Some.ensures c.deref-in-If-default-default-Some.ensures)
    (of_listed known _ _ _ c.of_block-in-If-default-default-Some-2.ensures same)
    c.or-inside.ensures c.plus-in-If-default-default-Some.ensures c.begun-in-If-default-default-Some.ensures is

pub of_stmt-returns-in-Loop : goal.of_stmt-returns-in-Loop
of_stmt-returns-in-Loop t c =
    let known = costs_in c.args.known.now in
    let is : cost_of_stmt c.args.stmt.now known
    ≡ 1 + (turn_limit + 1) * (1 + (cost_of_calls known (calls_in c.in-Loop.condition)
    + block_cost (map cost_of_stmt c.in-Loop.body) known)) = search (rules, the_lemmas) in
    tell-loop _ _ _ _ _ _ _ _ _
    (of_boxed known _ _ _ c.in_expr-in-Loop.ensures c.deref-in-Loop.ensures)
    (of_listed known _ _ _ c.of_block-in-Loop.ensures c.deref-in-Loop-2.ensures)
    c.plus-turn.ensures c.begun-in-Loop.ensures c.turns.ensures c.begun-in-Loop-2.ensures is

pub of_stmt-returns-in-Return-Some : goal.of_stmt-returns-in-Return-Some
of_stmt-returns-in-Return-Some t c =
    let known = costs_in c.args.known.now in
    let is : cost_of_stmt c.args.stmt.now known ≡ 1 + cost_of_calls known (calls_in c.in-Return-Some.value) = search (rules, the_lemmas) in
    tell-one _ _ _ _ (of_boxed known _ _ _ c.in_expr-in-Return-Some.ensures c.deref-in-Return-Some.ensures) c.begun-in-Return-Some.ensures is
