use Rattle.std.proofs.Common.{◌≡◌, ◌+◌, ◌&&◌, true, map, max, rules, arith, ◌∙◌}
use Rattle.bl_tree.specs.Reduce.{all_of, greatest}
use Rattle.bl_tree.specs.declared.c.CStmtKind.{the_lemmas}
use Rattle.bl_ctext.specs.Spellable.{spells_expr, spells_place, spells_stmt, spells_stmt_kind}
use Rattle.bl_ctext.specs.inner.Depths.{expr_depth, place_depth, stmt_depth, stmt_kind_depth}
use Rattle.bl_ctext_spelled.proofs.Depths.{and_three, and_true, moved, parts_done, parts_next, spelled_as, spelled_blocks}
use Rattle.bl_ctext_spelled.proofs.stmts.+spelling.Goals as goal

pub of_block-loop-stmt-preserved : goal.of_block-loop-stmt-preserved
of_block-loop-stmt-preserved t c =
    parts_next spells_stmt stmt_depth c.args.block.now c.loop-stmt.stmt-index c.stmt-item.result _ _ _ _ _ c.loop-stmt-test.true c.stmt-item.is
    c.of_stmt.ensures c.deeper-depth.ensures c.loop-stmt.invariant

pub of_block-returns : goal.of_block-returns
of_block-returns t c =
    parts_done spells_stmt stmt_depth c.args.block.now c.loop-stmt.stmt-index c.loop-stmt.depth c.loop-stmt-test.false c.loop-stmt.invariant

pub of_kind-returns-in-Set : goal.of_kind-returns-in-Set
of_kind-returns-in-Set t c =
    let spells : spells_stmt_kind c.args.what.now ≡ (spells_place c.in-Set.at && spells_expr c.in-Set.value) = search (rules, the_lemmas) in
    let depth : stmt_kind_depth c.args.what.now ≡ max (place_depth c.in-Set.at) (expr_depth c.in-Set.value) = search (rules, the_lemmas) in
    spelled_as _ _ _ _ _ spells depth
    (c.deeper.ensures _ _ _ _ c.of_place.ensures (moved spells_expr expr_depth _ _ _ c.deref.ensures c.of_expr.ensures))

pub of_kind-returns-in-Clear : goal.of_kind-returns-in-Clear
of_kind-returns-in-Clear t c =
    let spells : spells_stmt_kind c.args.what.now ≡ (spells_place c.in-Clear.at && c.is_struct_name.result) = search (rules, the_lemmas) in
    let depth : stmt_kind_depth c.args.what.now ≡ max (place_depth c.in-Clear.at) 1 = search (rules, the_lemmas) in
    spelled_as _ _ _ _ _ spells (depth ∙ omega arith)
    (c.at_least.ensures _ _ (c.deeper-in-Clear.ensures _ _ _ _
    (moved spells_place place_depth _ _ _ c.deref-in-Clear.ensures c.of_place-in-Clear.ensures) c.flat.ensures))

pub of_kind-returns-in-If-default-default-None : goal.of_kind-returns-in-If-default-default-None
of_kind-returns-in-If-default-default-None t c =
    let test = c.in-If-default-default-None.test in
    let block = c.in-If-default-default-None.block in
    let spells : spells_stmt_kind c.args.what.now ≡ (spells_expr test && (all_of (map spells_stmt block) && true)) = search (rules, the_lemmas) in
    let depth : stmt_kind_depth c.args.what.now ≡ max (max (expr_depth test + 1) (greatest (map stmt_depth block) + 1)) 0 = search (rules, the_lemmas) in
    spelled_as _ _ _ _ _ (spells ∙ and_true _ _) (depth ∙ omega arith)
    (c.deeper-in-If-default-default-None.ensures _ _ _ _
    (c.within.ensures _ _ (moved spells_expr expr_depth _ _ _ c.deref-in-If-default-default-None.ensures
    c.of_expr-in-If-default-default-None.ensures))
    (c.within-in-If-default-default-None.ensures _ _ (spelled_blocks _ _ _ c.deref-in-If-default-default-None-2.ensures c.of_block.ensures)))

pub of_kind-returns-in-If-default-default-Some : goal.of_kind-returns-in-If-default-default-Some
of_kind-returns-in-If-default-default-Some t c =
    let test = c.in-If-default-default-Some.test in
    let block = c.in-If-default-default-Some.block in
    let other = c.in-If-default-default-Some.other in
    let spells : spells_stmt_kind c.args.what.now ≡ (spells_expr test && (all_of (map spells_stmt block) && all_of (map spells_stmt other)))
    = search (rules, the_lemmas) in
    let depth : stmt_kind_depth c.args.what.now
    ≡ max (max (expr_depth test + 1) (greatest (map stmt_depth block) + 1)) (greatest (map stmt_depth other) + 1) = search (rules, the_lemmas) in
    let same : c.deref-in-If-default-default-Some-3.result.now ≡ other = search rules in
    spelled_as _ _ _ _ _ (spells ∙ and_three (spells_expr test) (all_of (map spells_stmt block)) (all_of (map spells_stmt other))) depth
    (c.deeper-in-If-default-default-Some.ensures _ _ _ _
    (c.deeper-front.ensures _ _ _ _
    (c.within-in-If-default-default-Some.ensures _ _ (moved spells_expr expr_depth _ _ _ c.deref-in-If-default-default-Some.ensures
    c.of_expr-in-If-default-default-Some.ensures))
    (c.within-in-If-default-default-Some-2.ensures _ _
    (spelled_blocks _ _ _ c.deref-in-If-default-default-Some-2.ensures c.of_block-in-If-default-default-Some.ensures)))
    (c.within-in-If-default-default-Some-3.ensures _ _
    (spelled_blocks _ _ _ same c.of_block-in-If-default-default-Some-2.ensures)))

pub of_kind-returns-in-Loop : goal.of_kind-returns-in-Loop
of_kind-returns-in-Loop t c =
    let test = c.in-Loop.test in
    let body = c.in-Loop.body in
    let spells : spells_stmt_kind c.args.what.now ≡ (c.is_turn_name.result && (spells_expr test && all_of (map spells_stmt body)))
    = search (rules, the_lemmas) in
    let depth : stmt_kind_depth c.args.what.now ≡ max (expr_depth test + 2) (max 1 (greatest (map stmt_depth body)) + 2) = search (rules, the_lemmas) in
    let deep : stmt_kind_depth c.args.what.now ≡ max (max 0 (expr_depth test + 2)) (max 1 (greatest (map stmt_depth body)) + 2) = depth ∙ omega arith in
    spelled_as _ _ _ _ _ (spells ∙ and_three c.is_turn_name.result (spells_expr test) (all_of (map spells_stmt body))) deep
    (c.deeper-in-Loop.ensures _ _ _ _
    (c.deeper-front-in-Loop.ensures _ _ _ _ c.flat-name.ensures
    (c.within-in-Loop.ensures _ _ (moved spells_expr expr_depth _ _ _ c.deref-in-Loop.ensures c.of_expr-in-Loop.ensures)))
    (c.within-in-Loop-2.ensures _ _ (c.at_least-in-Loop.ensures _ _ (spelled_blocks _ _ _ c.deref-in-Loop-2.ensures c.of_block-in-Loop.ensures))))
