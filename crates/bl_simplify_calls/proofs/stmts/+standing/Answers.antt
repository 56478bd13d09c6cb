use Rattle.std.proofs.Common.{◌≡◌, ◌&&◌, true, map, rules, ap, refl, sym, ◌∙◌}
use Rattle.std.specs.List.{list_all}
use Rattle.bl_tree.specs.declared.c.CStmtKind.{the_lemmas}
use Rattle.bl_tree.proofs.Basics.{and_true}
use Rattle.bl_simplify_laws.specs.Tables.{calls_stand_in, calls_stand_in_call, calls_stand_in_expr, calls_stand_in_place}
use Rattle.bl_simplify_calls.proofs.Standing.{all_done, all_next, both_told, of_boxed, of_listed, of_lying}
use Rattle.bl_simplify_calls.proofs.stmts.+standing.Goals as goal

pub in_block-loop-stmt-preserved : goal.in_block-loop-stmt-preserved
in_block-loop-stmt-preserved t c = λ names has.
    all_next (calls_stand_in names) c.args.block.now c.loop-stmt.stmt-index c.stmt-item.result c.loop-stmt.stand _ _ c.loop-stmt-test.true
    c.stmt-item.is (c.in_stmt-stand.ensures names has) (c.loop-stmt.invariant names has)

pub in_block-returns : goal.in_block-returns
in_block-returns t c = λ names has.
    all_done (calls_stand_in names) c.args.block.now c.loop-stmt.stmt-index c.loop-stmt.stand _ c.loop-stmt-test.false (c.loop-stmt.invariant names has)

pub in_stmt-returns-in-Set : goal.in_stmt-returns-in-Set
in_stmt-returns-in-Set t c = λ names has.
    let is : calls_stand_in names c.args.stmt.now
    ≡ ((calls_stand_in_place names c.in-Set.place).stands && calls_stand_in_expr names c.in-Set.value) = search (rules, the_lemmas) in
    both_told _ _ _ _ _ (c.in_place.ensures names has) (of_boxed names _ _ _ (c.in_expr.ensures names has) c.deref.ensures) is

pub in_stmt-returns-in-Clear : goal.in_stmt-returns-in-Clear
in_stmt-returns-in-Clear t c = λ names has.
    let is : calls_stand_in names c.args.stmt.now ≡ (calls_stand_in_place names c.in-Clear.place).stands = search (rules, the_lemmas) in
    of_lying names _ _ _ (c.in_place-in-Clear.ensures names has) c.deref-in-Clear.ensures ∙ sym is

pub in_stmt-returns-in-Call : goal.in_stmt-returns-in-Call
in_stmt-returns-in-Call t c = λ names has.
    let is : calls_stand_in names c.args.stmt.now ≡ calls_stand_in_call names c.in-Call.call = search (rules, the_lemmas) in
    c.in_call.ensures names has ∙ sym is

pub in_stmt-returns-in-If-default-default-None : goal.in_stmt-returns-in-If-default-default-None
in_stmt-returns-in-If-default-default-None t c = λ names has.
    let condition = c.in-If-default-default-None.condition in
    let block = c.in-If-default-default-None.block in
    let is : calls_stand_in names c.args.stmt.now
    ≡ (calls_stand_in_expr names condition && (list_all (λ b. b) (map (calls_stand_in names) block) && true)) = search (rules, the_lemmas) in
    both_told _ _ _ _ _
    (of_boxed names _ _ _ (c.in_expr-in-If-default-default-None.ensures names has) c.deref-in-If-default-default-None.ensures)
    (of_listed names _ _ _ (c.in_block.ensures names has) c.deref-in-If-default-default-None-2.ensures)
    (is ∙ ap (λ b. calls_stand_in_expr names condition && b) (and_true (list_all (λ b. b) (map (calls_stand_in names) block))))

pub in_stmt-returns-in-If-default-default-Some : goal.in_stmt-returns-in-If-default-default-Some
in_stmt-returns-in-If-default-default-Some t c = λ names has.
    let condition = c.in-If-default-default-Some.condition in
    let block = c.in-If-default-default-Some.block in
    let other = c.in-If-default-default-Some.other in
    let is : calls_stand_in names c.args.stmt.now
    ≡ (calls_stand_in_expr names condition
    && (list_all (λ b. b) (map (calls_stand_in names) block) && list_all (λ b. b) (map (calls_stand_in names) other)))
    = search (rules, the_lemmas) in
    let same : c.deref-in-If-default-default-Some-3.result.now ≡ other = search rules in
    both_told _ _ _ _ _
    (of_boxed names _ _ _ (c.in_expr-in-If-default-default-Some.ensures names has) c.deref-in-If-default-default-Some.ensures)
    (both_told _ _ _ _ _
    (of_listed names _ _ _ (c.in_block-in-If-default-default-Some.ensures names has) c.deref-in-If-default-default-Some-2.ensures)
    (of_listed names _ _ _ (c.in_block-in-If-default-default-Some-2.ensures names has) same) refl) is

pub in_stmt-returns-in-Loop : goal.in_stmt-returns-in-Loop
in_stmt-returns-in-Loop t c = λ names has.
    let condition = c.in-Loop.condition in
    let body = c.in-Loop.body in
    let is : calls_stand_in names c.args.stmt.now
    ≡ (calls_stand_in_expr names condition && list_all (λ b. b) (map (calls_stand_in names) body)) = search (rules, the_lemmas) in
    both_told _ _ _ _ _
    (of_boxed names _ _ _ (c.in_expr-in-Loop.ensures names has) c.deref-in-Loop.ensures)
    (of_listed names _ _ _ (c.in_block-in-Loop.ensures names has) c.deref-in-Loop-2.ensures) is
