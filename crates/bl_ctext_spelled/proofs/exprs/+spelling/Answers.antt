use Rattle.std.proofs.Common.{◌≡◌, ◌+◌, ◌&&◌, true, map, max, rules, arith, ◌∙◌}
use Rattle.bl_tree.specs.Reduce.{all_of, greatest}
use Rattle.bl_tree.specs.declared.c.CExpr.{the_lemmas}
use Rattle.bl_ctext.specs.Spellable.{is_literal, spells_arg, spells_call, spells_expr, spells_index, spells_kind, spells_place}
use Rattle.bl_ctext.specs.Spellable.{spells_step}
use Rattle.bl_ctext.specs.inner.Depths.{arg_depth, call_depth, expr_depth, index_depth, kind_depth, place_depth, step_depth}
use Rattle.bl_ctext_spelled.proofs.Depths.{moved, parts_done, parts_next, spelled_as, spelled_if}
use Rattle.bl_ctext_spelled.proofs.exprs.+spelling.Goals as goal

pub of_args-loop-arg-preserved : goal.of_args-loop-arg-preserved
of_args-loop-arg-preserved t c =
    parts_next spells_arg arg_depth c.args.args.now c.loop-arg.arg-index c.arg-item.result _ _ _ _ _ c.loop-arg-test.true c.arg-item.is
    c.of_arg.ensures c.deeper-depth.ensures c.loop-arg.invariant

pub of_steps-loop-step-preserved : goal.of_steps-loop-step-preserved
of_steps-loop-step-preserved t c =
    parts_next spells_step step_depth c.args.steps.now c.loop-step.step-index c.step-item.result _ _ _ _ _ c.loop-step-test.true c.step-item.is
    c.of_step.ensures c.deeper-depth.ensures c.loop-step.invariant

pub of_args-returns : goal.of_args-returns
of_args-returns t c =
    parts_done spells_arg arg_depth c.args.args.now c.loop-arg.arg-index c.loop-arg.depth c.loop-arg-test.false c.loop-arg.invariant

pub of_steps-returns : goal.of_steps-returns
of_steps-returns t c =
    parts_done spells_step step_depth c.args.steps.now c.loop-step.step-index c.loop-step.depth c.loop-step-test.false c.loop-step.invariant

pub of_call-returns : goal.of_call-returns
of_call-returns t c =
    let spells : spells_call c.args.call.now ≡ (c.is_callee.result && all_of (map spells_arg c.deref.result.now)) = search (rules, the_lemmas) in
    let depth : call_depth c.args.call.now ≡ greatest (map arg_depth c.deref.result.now) + 1 = search (rules, the_lemmas) in
    spelled_as _ _ _ _ _ spells (depth ∙ omega arith) (c.within.ensures _ _ (c.deeper.ensures _ _ _ _ c.flat.ensures c.of_args.ensures))

pub of_index-returns : goal.of_index-returns
of_index-returns t c =
    let spells : spells_index c.args.index.now ≡ (spells_expr c.args.index.now.at && c.is_length.result) = search (rules, the_lemmas) in
    let depth : index_depth c.args.index.now ≡ expr_depth c.args.index.now.at + 2 = search (rules, the_lemmas) in
    spelled_as _ _ _ _ _ spells (depth ∙ omega arith) (c.within.ensures _ _ (c.deeper.ensures _ _ _ _ c.of_expr.ensures c.flat.ensures))

pub of_kind-returns-in-Literal : goal.of_kind-returns-in-Literal
of_kind-returns-in-Literal t c =
    let spells : spells_kind c.args.what.now ≡ is_literal c.in-Literal.ty c.in-Literal.n = search (rules, the_lemmas) in
    let depth : kind_depth c.args.what.now ≡ 2 = search (rules, the_lemmas) in
    let ok : c.is_literal.result ≡ true → is_literal c.in-Literal.ty c.in-Literal.n ≡ true = λ h. search rules in
    spelled_as _ _ _ (0 + 2) _ spells (depth ∙ omega arith) (c.within.ensures _ _ (spelled_if _ _ _ _ ok c.flat.ensures))

pub of_kind-returns-in-Not : goal.of_kind-returns-in-Not
of_kind-returns-in-Not t c =
    let spells : spells_kind c.args.what.now ≡ spells_expr c.in-Not.operand = search (rules, the_lemmas) in
    let depth : kind_depth c.args.what.now ≡ expr_depth c.in-Not.operand + 1 = search (rules, the_lemmas) in
    spelled_as _ _ _ _ _ spells depth (c.within-in-Not.ensures _ _ (moved spells_expr expr_depth _ _ _ c.deref.ensures c.of_expr.ensures))

pub of_kind-returns-in-Two : goal.of_kind-returns-in-Two
of_kind-returns-in-Two t c =
    let spells : spells_kind c.args.what.now ≡ (c.is_c_operator.result && (spells_expr c.in-Two.left && spells_expr c.in-Two.right))
    = search (rules, the_lemmas) in
    let depth : kind_depth c.args.what.now ≡ max (expr_depth c.in-Two.left) (expr_depth c.in-Two.right) + 1 = search (rules, the_lemmas) in
    let left = moved spells_expr expr_depth _ _ _ c.deref-in-Two.ensures c.of_expr-in-Two.ensures in
    let right = moved spells_expr expr_depth _ _ _ c.deref-in-Two-2.ensures c.of_expr-in-Two-2.ensures in
    spelled_as _ _ _ _ _ spells (depth ∙ omega arith)
    (c.within-in-Two.ensures _ _ (c.deeper.ensures _ _ _ _ c.flat-in-Two.ensures (c.deeper-sides.ensures _ _ _ _ left right)))

pub of_place-returns : goal.of_place-returns
of_place-returns t c =
    let spells : spells_place c.args.place.now ≡ (c.is_name.result && all_of (map spells_step c.deref.result.now)) = search (rules, the_lemmas) in
    let depth : place_depth c.args.place.now ≡ max 1 (greatest (map step_depth c.deref.result.now)) = search (rules, the_lemmas) in
    spelled_as _ _ _ _ _ spells depth (c.deeper.ensures _ _ _ _ (c.within-name.ensures _ _ c.flat.ensures) c.of_steps.ensures)

pub of_step-returns-in-Some : goal.of_step-returns-in-Some
of_step-returns-in-Some t c =
    let spells : spells_step c.args.step.now ≡ (c.is_name.result && spells_index c.in-Some.index) = search (rules, the_lemmas) in
    let depth : step_depth c.args.step.now ≡ index_depth c.in-Some.index = search (rules, the_lemmas) in
    spelled_as _ _ _ _ _ spells (depth ∙ omega arith)
    (c.deeper.ensures _ _ _ _ c.flat-member.ensures (moved spells_index index_depth _ _ _ c.deref.ensures c.of_index.ensures))
