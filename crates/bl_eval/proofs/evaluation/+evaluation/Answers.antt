use Rattle.std.proofs.Common.{◌+◌, ◌*◌, ◌++◌, ◌∷◌, [], ◌<◌, ◌≤◌, max, arith, ap, sym, ◌∙◌, map, take, length, Some, true, false}
use Rattle.std.proofs.lemmas.List.{length-take-le}
use Rattle.std.proofs.lemmas.Option.{slice_get_within}
use Rattle.std.specs.Prelude.{option_map, option_and_then}
use Rattle.bl_tree.specs.declared.tree.Arm.{out-Arm}
use Rattle.bl_tree.specs.declared.tree.Expr.{size-Expr}
use Rattle.bl_tree.specs.declared.tree.Part.{size-Part}
use Rattle.bl_tree.specs.declared.tree.Path.{out-Path}
use Rattle.bl_tree.specs.Typing.{is_function}
use Rattle.bl_eval.specs.Changes.{all_changed, choice_of, current_of, ended, part_of_path, scope_in, view_in}
use Rattle.bl_eval.specs.Functions.{condition, does, in_order, truth}
use Rattle.bl_eval.specs.Meaning.{meaning_of, path_meaning_of, positions_of}
use Rattle.bl_eval.proofs.MeaningLemmas.{activity_leaves, callee_none, called_is, choice_out, if_ok, if_ok_then, is_called, no_current, no_inputs, no_targets}
use Rattle.bl_eval.proofs.MeaningLemmas.{repeat_is, spot_out, until_is, while_is}
use Rattle.bl_eval.proofs.SizeLemmas.{call_size, expr_at, index_size, part_at, read_size}
use Rattle.bl_eval.proofs.StepLemmas.{choice_false, choice_trap, choice_true, order_on, positions_step, positions_stop, targets_step, targets_stop, turns_again}
use Rattle.bl_eval.proofs.StepLemmas.{turns_done, turns_end, turns_end_trap, turns_left, turns_stop, turns_trap, values_step}
use Rattle.bl_eval.proofs.Weights.{arm_depth, arm_out, arm_weight, arms_weight, block_weight, exprs_depth, parts_depth, path_at, path_depth, paths_depth}
use Rattle.bl_eval.proofs.Weights.{stmt_depth, stmt_weight, unit_before, units_weight}
use Rattle.bl_eval.proofs.evaluation.+evaluation.Goals as goal

pub arguments-evaluate-requires : goal.arguments-evaluate-requires
arguments-evaluate-requires t c =
    let deep = expr_at c.args.inputs.now c.loop-e.e-index c.e-item.result c.loop-e-test.true in
    let is = ap size-Expr c.e-item.is in
    let below : 8 * (units_weight c.args.site.now.earlier.now + size-Expr c.e-item.result) + 1 < 8 *
    (units_weight c.args.site.now.earlier.now + exprs_depth c.args.inputs.now) + 2 = omega arith in
    (omega (arith, c.decreases, below), tt)

pub arguments-loop-e-preserved : goal.arguments-loop-e-preserved
arguments-loop-e-preserved t c =
    values_step (meaning_of (scope_in c.args.site.now))
    (view_in c.args.view.now) c.args.inputs.now c.loop-e.e-index c.e-item.result c.in-Some.datum c.push.new.self c.loop-e.values
    c.loop-e-test.true c.e-item.is (sym c.in-Some.is ∙ c.in_ok-datum.ensures)
    (c.in_ok-push-in-Some.ensures.ok ∙ ap (λ v. c.loop-e.values ++ v ∷ []) c.plain_value.ensures)
    ∙ c.loop-e.invariant

pub block-statement-requires : goal.block-statement-requires
block-statement-requires t c =
    let deep = stmt_depth c.args.body.now c.loop-s.s-index c.s-item.result c.loop-s-test.true in
    let is = ap stmt_weight c.s-item.is in
    let below : 8 * (units_weight c.args.site.now.earlier.now + stmt_weight c.s-item.result) + 2 < 8 *
    (units_weight c.args.site.now.earlier.now + block_weight c.args.body.now) + 3 = omega arith in
    (omega (arith, c.decreases, below), tt)

pub block-loop-s-preserved : goal.block-loop-s-preserved
block-loop-s-preserved t c =
    order_on (does (scope_in c.args.site.now)) c.args.body.now c.loop-s.s-index c.s-item.result c.loop-s.frame.items
    c.statement.new.frame.items c.in_ok-flow.flow
    c.loop-s-test.true c.s-item.is c.in-On.is c.in_ok-flow.ensures
    ∙ c.loop-s.invariant

pub call-returns-in_default : goal.call-returns-in_default
call-returns-in_default t c =
    sym (ap (option_and_then (λ callee. callee c.args.arguments)) (callee_none c.args.structs.now c.args.earlier.now c.args.f (sym c.in_default.ensures)))

pub call-returns-in-Activity : goal.call-returns-in-Activity
call-returns-in-Activity t c =
    activity_leaves c.args.structs.now c.args.earlier.now c.args.f c.in-Some.unit.now c.args.arguments c.in-Some.ensures (ap is_function c.in-Activity.is)

pub call-slice_bounds-site-end : goal.call-slice_bounds-site-end
call-slice_bounds-site-end t c =
    let within = slice_get_within c.args.earlier.now c.args.f c.in-Some.unit.now (sym c.in-Some.ensures) in
    let le : c.args.f ≤ length c.args.earlier.now = omega arith in
    sym (length-take-le c.args.f c.args.earlier.now le)

pub call-block-requires : goal.call-block-requires
call-block-requires t c =
    let weighs = unit_before c.args.earlier.now c.args.f c.in-Some.unit.now c.in-Some.ensures in
    let is = ap block_weight c.deref-2.ensures in
    let below : 8 * (units_weight (take c.args.f c.args.earlier.now) + block_weight c.deref-2.result.now) + 3 < 8 * units_weight
    c.args.earlier.now = omega arith in
    (omega (arith, c.decreases, below), tt)

pub call-returns : goal.call-returns
call-returns t c =
    if_ok c.left.result (λ left. left) _ _ c.left.ensures
    (called_is c.args.structs.now c.args.earlier.now c.args.f c.in-Some.unit.now c.args.arguments c.in_ok-frame.frame.items
    c.deref.result.now c.deref-2.result.now
    (ended c.in_ok-flow.flow c.block.new.frame.items) c.in-Some.ensures (ap is_function c.in-Function.is) c.deref.ensures c.deref-2.ensures c.in_ok-frame.ensures c.in_ok-flow.ensures)

pub choice-condition-requires : goal.choice-condition-requires
choice-condition-requires t c =
    let deep = arm_depth c.args.arms.now c.loop-arm.arm-index c.arm-item.result c.loop-arm-test.true in
    let is = ap arm_weight c.arm-item.is in
    let out = arm_out c.arm-item.result in
    let below : 8 * (units_weight c.args.site.now.earlier.now + size-Expr (out-Arm c.arm-item.result).test) + 2 < 8 *
    (units_weight c.args.site.now.earlier.now + max (arms_weight c.args.arms.now) (block_weight c.args.other.now)) + 4 = omega arith in
    (omega (arith, c.decreases, below), tt)

pub choice-returns-in-None : goal.choice-returns-in-None
choice-returns-in-None t c =
    choice_trap (choice_of (scope_in c.args.site.now))
    (in_order (map (does (scope_in c.args.site.now)) c.args.other.now)) c.args.arms.now c.loop-arm.arm-index c.arm-item.result
    c.loop-arm.frame.items c.loop-arm-test.true c.arm-item.is
    (ap (λ choice. choice.test c.loop-arm.frame.items) (choice_out (scope_in c.args.site.now) c.arm-item.result)
    ∙ ap (truth (scope_in c.args.site.now) (out-Arm c.arm-item.result).test) (sym c.as_slice.ensures.value) ∙ sym c.in_ok-condition.ensures
    ∙ c.in-None.is)
    ∙ c.loop-arm.invariant

pub choice-block-requires : goal.choice-block-requires
choice-block-requires t c =
    let deep = arm_depth c.args.arms.now c.loop-arm.arm-index c.arm-item.result c.loop-arm-test.true in
    let is = ap arm_weight c.arm-item.is in
    let out = arm_out c.arm-item.result in
    let body = ap block_weight c.deref.ensures in
    let below : 8 * (units_weight c.args.site.now.earlier.now + block_weight c.deref.result.now) + 3 < 8 *
    (units_weight c.args.site.now.earlier.now + max (arms_weight c.args.arms.now) (block_weight c.args.other.now)) + 4 = omega arith in
    (omega (arith, c.decreases, below), tt)

pub choice-returns-in-Some-true : goal.choice-returns-in-Some-true
choice-returns-in-Some-true t c =
    if_ok c.block.result (λ flow. ended flow c.block.new.frame.items) _ _ c.block.ensures
    (ap (λ body. in_order (map (does (scope_in c.args.site.now)) body) c.loop-arm.frame.items) c.deref.ensures
    ∙ sym (ap (λ choice. choice.body c.loop-arm.frame.items) (choice_out (scope_in c.args.site.now) c.arm-item.result))
    ∙ choice_true (choice_of (scope_in c.args.site.now))
    (in_order (map (does (scope_in c.args.site.now)) c.args.other.now)) c.args.arms.now c.loop-arm.arm-index c.arm-item.result
    c.loop-arm.frame.items c.loop-arm-test.true c.arm-item.is
    (ap (λ choice. choice.test c.loop-arm.frame.items) (choice_out (scope_in c.args.site.now) c.arm-item.result)
    ∙ ap (truth (scope_in c.args.site.now) (out-Arm c.arm-item.result).test) (sym c.as_slice.ensures.value)
    ∙ sym c.in_ok-condition.ensures ∙ c.in-Some-true.is ∙ ap Some c.in-Some-true.field-0-test)
    ∙ c.loop-arm.invariant)

pub choice-loop-arm-preserved : goal.choice-loop-arm-preserved
choice-loop-arm-preserved t c =
    choice_false (choice_of (scope_in c.args.site.now))
    (in_order (map (does (scope_in c.args.site.now)) c.args.other.now)) c.args.arms.now c.loop-arm.arm-index c.arm-item.result
    c.loop-arm.frame.items c.loop-arm-test.true c.arm-item.is
    (ap (λ choice. choice.test c.loop-arm.frame.items) (choice_out (scope_in c.args.site.now) c.arm-item.result)
    ∙ ap (truth (scope_in c.args.site.now) (out-Arm c.arm-item.result).test) (sym c.as_slice.ensures.value)
    ∙ sym c.in_ok-condition.ensures ∙ c.in-Some-false.is ∙ ap Some c.in-Some-false.field-0-test)
    ∙ c.loop-arm.invariant

pub evaluate-positions-requires : goal.evaluate-positions-requires
evaluate-positions-requires t c =
    let small = read_size c.args.e.now c.in-Read.path c.in-Read.is in
    let is = ap parts_depth c.deref.ensures in
    let below : 8 * (units_weight c.args.site.now.earlier.now + parts_depth c.deref.result.now) + 3 < 8 *
    (units_weight c.args.site.now.earlier.now + size-Expr c.args.e.now) + 1 = omega arith in
    (omega (arith, c.decreases, below), tt)

pub evaluate-arguments-requires : goal.evaluate-arguments-requires
evaluate-arguments-requires t c =
    let small = call_size c.args.e.now c.in-Call.f c.in-Call.inputs c.in-Call.is in
    let is = ap exprs_depth c.deref-in-Call.ensures in
    let below : 8 * (units_weight c.args.site.now.earlier.now + exprs_depth c.deref-in-Call.result.now) + 2 < 8 *
    (units_weight c.args.site.now.earlier.now + size-Expr c.args.e.now) + 1 = omega arith in
    (omega (arith, c.decreases, below), tt)

pub positions-position_at-requires : goal.positions-position_at-requires
positions-position_at-requires t c =
    let deep = part_at c.args.parts.now c.loop-part.part-index c.part-item.result c.loop-part-test.true in
    let is = ap size-Part c.part-item.is in
    let below : 8 * (units_weight c.args.site.now.earlier.now + size-Part c.part-item.result) + 2 < 8 *
    (units_weight c.args.site.now.earlier.now + parts_depth c.args.parts.now) + 3 = omega arith in
    (omega (arith, c.decreases, below), tt)

pub position_at-evaluate-requires : goal.position_at-evaluate-requires
position_at-evaluate-requires t c =
    let small = index_size c.args.part.now c.in-Index.e c.in-Index.is in
    let below : 8 * (units_weight c.args.site.now.earlier.now + size-Expr c.in-Index.e) + 1 < 8 *
    (units_weight c.args.site.now.earlier.now + size-Part c.args.part.now) + 2 = omega arith in
    (omega (arith, c.decreases, below), tt)

pub positions-returns-in-None : goal.positions-returns-in-None
positions-returns-in-None t c =
    sym (positions_stop (part_of_path (scope_in c.args.site.now))
    (view_in c.args.view.now) c.args.parts.now c.loop-part.part-index c.part-item.result c.loop-part.positions
    c.loop-part-test.true c.part-item.is (sym c.in_ok-k.ensures ∙ c.in-None.is))
    ∙ c.loop-part.invariant

pub positions-loop-part-preserved : goal.positions-loop-part-preserved
positions-loop-part-preserved t c =
    positions_step (part_of_path (scope_in c.args.site.now))
    (view_in c.args.view.now) c.args.parts.now c.loop-part.part-index c.part-item.result c.in-Some.k c.push.new.self c.loop-part.positions
    c.loop-part-test.true c.part-item.is (sym c.in_ok-k.ensures ∙ c.in-Some.is) c.in_ok-push-in-Some.ensures.ok
    ∙ c.loop-part.invariant

pub procedure-returns-in_default : goal.procedure-returns-in_default
procedure-returns-in_default t c = no_targets (scope_in c.args.site.now) c.args.f c.args.inputs.now c.args.outputs.now
    (view_in c.args.view.now) (sym c.in_ok-targets.ensures ∙ c.in_default.is)

pub procedure-returns-in_default-2 : goal.procedure-returns-in_default-2
procedure-returns-in_default-2 t c = no_inputs (scope_in c.args.site.now) c.args.f c.args.inputs.now c.args.outputs.now
    (view_in c.args.view.now) (sym c.in_ok-inputs.ensures ∙ c.in_default-2.is)

pub procedure-returns-in_default-3 : goal.procedure-returns-in_default-3
procedure-returns-in_default-3 t c =
    no_current (scope_in c.args.site.now) c.args.f c.args.inputs.now c.args.outputs.now (view_in c.args.view.now) c.in-Some-2.inputs c.in-Some.targets
    (sym c.in_ok-inputs.ensures ∙ c.in-Some-2.is) (sym c.in_ok-targets.ensures ∙ c.in-Some.is)
    (ap (λ ts. option_map (λ ws. c.in-Some-2.inputs ++ ws) (current_of ts c.args.view.now.now.now)) (sym c.deref.ensures)
    ∙ sym c.in_ok-arguments.ensures ∙ c.in_default-3.is)

pub procedure-returns : goal.procedure-returns
procedure-returns t c =
    if_ok_then c.returned.result (λ changes. option_map (λ puts. all_changed puts c.args.view.now.now.now) changes) _ _ c.returned.ensures
    (λ changes is.
    is_called (scope_in c.args.site.now) c.args.f c.args.inputs.now c.args.outputs.now
    (view_in c.args.view.now) c.in-Some-2.inputs c.in-Some.targets c.in-Some-3.arguments c.in_ok-left.left changes
    (sym c.in_ok-inputs.ensures ∙ c.in-Some-2.is) (sym c.in_ok-targets.ensures ∙ c.in-Some.is)
    (ap (λ ts. option_map (λ ws. c.in-Some-2.inputs ++ ws) (current_of ts c.args.view.now.now.now)) (sym c.deref.ensures)
    ∙ sym c.in_ok-arguments.ensures ∙ c.in-Some-3.is)
    c.in_ok-left.ensures is)

pub statement-returns-in-Repeat : goal.statement-returns-in-Repeat
statement-returns-in-Repeat t c =
    if_ok c.turns.result (λ flow. ended flow c.turns.new.frame.items) _ _ c.turns.ensures
    (repeat_is (scope_in c.args.site.now) c.args.s.now c.deref-in-Repeat.result.now c.in-Repeat.body c.args.frame.now.items c.in-Repeat.is
    c.deref-in-Repeat.ensures)

pub statement-returns-in-Until : goal.statement-returns-in-Until
statement-returns-in-Until t c =
    if_ok c.turns-in-Until.result (λ flow. ended flow c.turns-in-Until.new.frame.items) _ _ c.turns-in-Until.ensures
    (until_is (scope_in c.args.site.now) c.args.s.now c.deref-in-Until.result.now c.in-Until.body c.in-Until.e c.args.frame.now.items
    c.in-Until.is c.deref-in-Until.ensures)

pub statement-returns-in-While : goal.statement-returns-in-While
statement-returns-in-While t c =
    if_ok c.turns-in-While.result (λ flow. ended flow c.turns-in-While.new.frame.items) _ _ c.turns-in-While.ensures
    (while_is (scope_in c.args.site.now) c.args.s.now c.in-While.e c.deref-in-While.result.now c.in-While.body c.args.frame.now.items
    c.in-While.is c.deref-in-While.ensures)

pub targets-positions-requires : goal.targets-positions-requires
targets-positions-requires t c =
    let deep = path_at c.args.outputs.now c.loop-path.path-index c.path-item.result c.loop-path-test.true in
    let is = ap path_depth c.path-item.is in
    let parts = ap parts_depth c.deref.ensures in
    let below : 8 * (units_weight c.args.site.now.earlier.now + parts_depth c.deref.result.now) + 3 < 8 *
    (units_weight c.args.site.now.earlier.now + paths_depth c.args.outputs.now) + 4 = omega arith in
    (omega (arith, c.decreases, below), tt)

pub targets-returns-in-None : goal.targets-returns-in-None
targets-returns-in-None t c =
    sym (targets_stop (path_meaning_of (scope_in c.args.site.now))
    (view_in c.args.view.now) c.args.outputs.now c.loop-path.path-index c.path-item.result c.loop-path.targets c.loop-path-test.true c.path-item.is
    (ap (λ spot. spot.positions (view_in c.args.view.now)) (spot_out (scope_in c.args.site.now) c.path-item.result)
    ∙ ap (λ parts. positions_of (map (part_of_path (scope_in c.args.site.now)) parts) (view_in c.args.view.now)) (sym c.deref.ensures)
    ∙ sym c.in_ok-positions.ensures ∙ c.in-None.is))
    ∙ c.loop-path.invariant

pub targets-loop-path-preserved : goal.targets-loop-path-preserved
targets-loop-path-preserved t c =
    targets_step (path_meaning_of (scope_in c.args.site.now)) (view_in c.args.view.now) c.args.outputs.now c.loop-path.path-index c.path-item.result
    (out-Path c.path-item.result).root c.in-Some.positions c.push.new.self
    c.loop-path.targets c.loop-path-test.true c.path-item.is (ap (λ spot. spot.root) (spot_out (scope_in c.args.site.now) c.path-item.result))
    (ap (λ spot. spot.positions (view_in c.args.view.now)) (spot_out (scope_in c.args.site.now) c.path-item.result)
    ∙ ap (λ parts. positions_of (map (part_of_path (scope_in c.args.site.now)) parts) (view_in c.args.view.now)) (sym c.deref.ensures)
    ∙ sym c.in_ok-positions.ensures ∙ c.in-Some.is) c.in_ok-push-in-Some.ensures.ok
    ∙ c.loop-path.invariant

pub turns-returns-in-None : goal.turns-returns-in-None
turns-returns-in-None t c = turns_trap (condition (scope_in c.args.site.now) (option_map (λ e. e.now) c.args.goes) true)
    (in_order (map (does (scope_in c.args.site.now)) c.args.body.now))
    (condition (scope_in c.args.site.now) (option_map (λ e. e.now) c.args.ends) false) c.loop.counter c.loop.frame.items _ c.loop-test.true
    c.loop.invariant (ap (condition (scope_in c.args.site.now) (option_map (λ e. e.now) c.args.goes) true) (sym c.as_slice.ensures.value)
    ∙ sym c.in_ok-condition.ensures ∙ c.in-None.is)

pub turns-returns-in-Some-false : goal.turns-returns-in-Some-false
turns-returns-in-Some-false t c = turns_stop (condition (scope_in c.args.site.now) (option_map (λ e. e.now) c.args.goes) true)
    (in_order (map (does (scope_in c.args.site.now)) c.args.body.now))
    (condition (scope_in c.args.site.now) (option_map (λ e. e.now) c.args.ends) false) c.loop.counter c.loop.frame.items _ c.loop-test.true
    c.loop.invariant (ap (condition (scope_in c.args.site.now) (option_map (λ e. e.now) c.args.goes) true) (sym c.as_slice.ensures.value)
    ∙ sym c.in_ok-condition.ensures ∙ c.in-Some-false.is ∙ ap Some c.in-Some-false.field-0-test)

pub turns-returns-in_default : goal.turns-returns-in_default
turns-returns-in_default t c =
    turns_left (condition (scope_in c.args.site.now) (option_map (λ e. e.now) c.args.goes) true)
    (in_order (map (does (scope_in c.args.site.now)) c.args.body.now))
    (condition (scope_in c.args.site.now) (option_map (λ e. e.now) c.args.ends) false) c.loop.counter c.loop.frame.items _
    c.loop-test.true c.loop.invariant c.in_ok-flow.flow c.block.new.frame.items
    (ap (condition (scope_in c.args.site.now) (option_map (λ e. e.now) c.args.goes) true) (sym c.as_slice.ensures.value)
    ∙ sym c.in_ok-condition.ensures ∙ c.in-Some-true.is ∙ ap Some c.in-Some-true.field-0-test) c.in_ok-flow.ensures c.in_default.not-On

pub turns-returns-in-None-2 : goal.turns-returns-in-None-2
turns-returns-in-None-2 t c = turns_end_trap (condition (scope_in c.args.site.now) (option_map (λ e. e.now) c.args.goes) true)
    (in_order (map (does (scope_in c.args.site.now)) c.args.body.now))
    (condition (scope_in c.args.site.now) (option_map (λ e. e.now) c.args.ends) false) c.loop.counter c.loop.frame.items _ c.loop-test.true
    c.loop.invariant c.in_ok-flow.flow c.block.new.frame.items
    (ap (condition (scope_in c.args.site.now) (option_map (λ e. e.now) c.args.goes) true) (sym c.as_slice.ensures.value)
    ∙ sym c.in_ok-condition.ensures ∙ c.in-Some-true.is ∙ ap Some c.in-Some-true.field-0-test) c.in_ok-flow.ensures c.in-On.is
    (ap (condition (scope_in c.args.site.now) (option_map (λ e. e.now) c.args.ends) false) (sym c.as_slice-in-loop.ensures.value)
    ∙ sym c.in_ok-condition-2.ensures ∙ c.in-None-2.is)

pub turns-returns-in-Some-true-2 : goal.turns-returns-in-Some-true-2
turns-returns-in-Some-true-2 t c = turns_end (condition (scope_in c.args.site.now) (option_map (λ e. e.now) c.args.goes) true)
    (in_order (map (does (scope_in c.args.site.now)) c.args.body.now))
    (condition (scope_in c.args.site.now) (option_map (λ e. e.now) c.args.ends) false) c.loop.counter c.loop.frame.items _ c.loop-test.true
    c.loop.invariant c.in_ok-flow.flow c.block.new.frame.items
    (ap (condition (scope_in c.args.site.now) (option_map (λ e. e.now) c.args.goes) true) (sym c.as_slice.ensures.value)
    ∙ sym c.in_ok-condition.ensures ∙ c.in-Some-true.is ∙ ap Some c.in-Some-true.field-0-test) c.in_ok-flow.ensures c.in-On.is
    (ap (condition (scope_in c.args.site.now) (option_map (λ e. e.now) c.args.ends) false) (sym c.as_slice-in-loop.ensures.value)
    ∙ sym c.in_ok-condition-2.ensures ∙ c.in-Some-true-2.is ∙ ap Some c.in-Some-true-2.field-0-test)

pub turns-loop-preserved : goal.turns-loop-preserved
turns-loop-preserved t c = turns_again (condition (scope_in c.args.site.now) (option_map (λ e. e.now) c.args.goes) true)
    (in_order (map (does (scope_in c.args.site.now)) c.args.body.now))
    (condition (scope_in c.args.site.now) (option_map (λ e. e.now) c.args.ends) false) c.loop.counter c.loop.frame.items _ c.loop-test.true
    c.loop.invariant c.in_ok-flow.flow c.block.new.frame.items
    (ap (condition (scope_in c.args.site.now) (option_map (λ e. e.now) c.args.goes) true) (sym c.as_slice.ensures.value)
    ∙ sym c.in_ok-condition.ensures ∙ c.in-Some-true.is ∙ ap Some c.in-Some-true.field-0-test) c.in_ok-flow.ensures c.in-On.is
    (ap (condition (scope_in c.args.site.now) (option_map (λ e. e.now) c.args.ends) false) (sym c.as_slice-in-loop.ensures.value)
    ∙ sym c.in_ok-condition-2.ensures ∙ c.in-Some-false-2.is ∙ ap Some c.in-Some-false-2.field-0-test)

pub turns-returns : goal.turns-returns
turns-returns t c =
    turns_done (condition (scope_in c.args.site.now) (option_map (λ e. e.now) c.args.goes) true)
    (in_order (map (does (scope_in c.args.site.now)) c.args.body.now))
    (condition (scope_in c.args.site.now) (option_map (λ e. e.now) c.args.ends) false) c.loop.counter c.loop.frame.items _
    c.in_ok-condition-3.field-0 _ c.loop-test.false c.loop.invariant
    (c.after_last.ensures c.loop.frame.items) (c.in_ok-condition-3.ensures
    ∙ ap (condition (scope_in c.args.site.now) (option_map (λ e. e.now) c.args.goes) true) c.as_slice-2.ensures.value)
