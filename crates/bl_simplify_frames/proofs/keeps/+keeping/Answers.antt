use Rattle.std.proofs.Common.{◌≡◌, ◌&&◌, ◌||◌, true, map, rules, ap, refl, sym, ◌∙◌}
use Rattle.std.specs.List.{list_all}
use Rattle.bl_tree.proofs.Basics.{and_true}
use Rattle.bl_tree.specs.declared.c.CStmtKind.{the_lemmas}
use Rattle.bl_simplify_laws.specs.Spots.{spot_of_place, spots_apart}
use Rattle.bl_simplify_laws_frames.specs.Reached.{call_keeps, covers, frame_spot, framed_names, is_plain_expr, keeps_frames, plain_place}
use Rattle.bl_simplify_frames.specs.Told.{as_frame}
use Rattle.bl_simplify_calls.proofs.Standing.{all_done, all_next}
use Rattle.bl_simplify_frames.proofs.OnKept.{of_boxed, of_listed, of_lying, of_cleared}
use Rattle.bl_simplify_frames.proofs.OnPlaces.{both}
use Rattle.bl_simplify_frames.proofs.keeps.+keeping.Goals as goal

pub block_keeps-loop-stmt-preserved : goal.block_keeps-loop-stmt-preserved
block_keeps-loop-stmt-preserved t c = λ frames has.
    all_next (keeps_frames frames (as_frame c.args.frame.now)) c.args.block.now c.loop-stmt.stmt-index c.stmt-item.result c.loop-stmt.kept _ _
    c.loop-stmt-test.true c.stmt-item.is (c.stmt_keeps-kept.ensures frames has) (c.loop-stmt.invariant frames has)

pub block_keeps-returns : goal.block_keeps-returns
block_keeps-returns t c = λ frames has.
    all_done (keeps_frames frames (as_frame c.args.frame.now)) c.args.block.now c.loop-stmt.stmt-index c.loop-stmt.kept _ c.loop-stmt-test.false
    (c.loop-stmt.invariant frames has)

pub stmt_keeps-returns-in-Set : goal.stmt_keeps-returns-in-Set
stmt_keeps-returns-in-Set t c = λ frames has.
    let names = framed_names frames in
    let frame = as_frame c.args.frame.now in
    let place = c.in-Set.place in
    let is : keeps_frames frames frame c.args.stmt.now
    ≡ ((plain_place names place).plain
    && (is_plain_expr names c.in-Set.value && list_all (λ part. spots_apart (spot_of_place place) (frame_spot frame part.0)) frame.parts))
    = search (rules, the_lemmas) in
    c.set_keeps.ensures names has
    ∙ (ap (λ e. (plain_place names place).plain
    && (is_plain_expr names e && list_all (λ part. spots_apart (spot_of_place place) (frame_spot frame part.0)) frame.parts)) c.deref.ensures ∙ sym is)

pub stmt_keeps-returns-in-Clear : goal.stmt_keeps-returns-in-Clear
stmt_keeps-returns-in-Clear t c = λ frames has.
    let names = framed_names frames in
    let frame = as_frame c.args.frame.now in
    let place = c.in-Clear.place in
    let is : keeps_frames frames frame c.args.stmt.now
    ≡ ((plain_place names place).plain
    && list_all (λ part. spots_apart (spot_of_place place) (frame_spot frame part.0)
    || covers frame (plain_place names place).exact (frame_spot frame part.0)) frame.parts)
    = search (rules, the_lemmas) in
    both _ _ _ _ (of_lying names _ _ _ (c.is_plain_place.ensures names has) (search rules))
    (of_cleared names frame _ _ _ (c.are_cleared.ensures names) (search rules)) ∙ sym is

pub stmt_keeps-returns-in-Call : goal.stmt_keeps-returns-in-Call
stmt_keeps-returns-in-Call t c = λ frames has.
    let is : keeps_frames frames (as_frame c.args.frame.now) c.args.stmt.now ≡ call_keeps frames (as_frame c.args.frame.now) c.in-Call.call
    = search (rules, the_lemmas) in
    c.call_keeps.ensures frames has ∙ sym is

pub stmt_keeps-returns-in-If-default-default-None : goal.stmt_keeps-returns-in-If-default-default-None
stmt_keeps-returns-in-If-default-default-None t c = λ frames has.
    let names = framed_names frames in
    let frame = as_frame c.args.frame.now in
    let condition = c.in-If-default-default-None.condition in
    let block = c.in-If-default-default-None.block in
    let is : keeps_frames frames frame c.args.stmt.now
    ≡ (is_plain_expr names condition && (list_all (λ b. b) (map (keeps_frames frames frame) block) && true)) = search (rules, the_lemmas) in
    both _ _ _ _ (of_boxed names _ _ _ (c.is_plain_expr.ensures names has) (search rules))
    (of_listed frames frame _ _ _ (c.block_keeps.ensures frames has) (search rules))
    ∙ (ap (λ b. is_plain_expr names condition && b) (sym (and_true (list_all (λ b. b) (map (keeps_frames frames frame) block)))) ∙ sym is)

pub stmt_keeps-returns-in-If-default-default-Some : goal.stmt_keeps-returns-in-If-default-default-Some
stmt_keeps-returns-in-If-default-default-Some t c = λ frames has.
    let names = framed_names frames in
    let frame = as_frame c.args.frame.now in
    let condition = c.in-If-default-default-Some.condition in
    let block = c.in-If-default-default-Some.block in
    let other = c.in-If-default-default-Some.other in
    let is : keeps_frames frames frame c.args.stmt.now
    ≡ (is_plain_expr names condition
    && (list_all (λ b. b) (map (keeps_frames frames frame) block) && list_all (λ b. b) (map (keeps_frames frames frame) other)))
    = search (rules, the_lemmas) in
    both _ _ _ _ (of_boxed names _ _ _ (c.is_plain_expr-in-If-default-default-Some.ensures names has) (search rules))
    (both _ _ _ _ (of_listed frames frame _ _ _ (c.block_keeps-in-If-default-default-Some.ensures frames has) (search rules))
    (of_listed frames frame _ _ _ (c.block_keeps-in-If-default-default-Some-2.ensures frames has) (search rules))) ∙ sym is

pub stmt_keeps-returns-in-Loop : goal.stmt_keeps-returns-in-Loop
stmt_keeps-returns-in-Loop t c = λ frames has.
    let names = framed_names frames in
    let frame = as_frame c.args.frame.now in
    let condition = c.in-Loop.condition in
    let body = c.in-Loop.body in
    let is : keeps_frames frames frame c.args.stmt.now
    ≡ (is_plain_expr names condition && list_all (λ b. b) (map (keeps_frames frames frame) body)) = search (rules, the_lemmas) in
    both _ _ _ _ (of_boxed names _ _ _ (c.is_plain_expr-in-Loop.ensures names has) (search rules))
    (of_listed frames frame _ _ _ (c.block_keeps-in-Loop.ensures frames has) (search rules)) ∙ sym is
