use Rattle.std.proofs.Common.{ap, drop, sym, ◌+◌, ◌∙◌}
use Rattle.bl_tree.proofs.Basics.{drop_next}
use Rattle.bl_ctree.specs.Actions.{values_there}
use Rattle.bl_eval.specs.Standing.{got_value}
use Rattle.bl_ctree_store.specs.Seen.{setting_in, store_of}
use Rattle.bl_ctree_store.proofs.PerformLemmas.{values_step, values_stop}
use Rattle.bl_ctree_store.proofs.GlimpseLemmas.{value_among_all}
use Rattle.bl_ctree_store.proofs.perform.values_there.Goals as goal

pub returns-in-Trap : goal.returns-in-Trap
returns-in-Trap c =
    let w = setting_in c.args.w.now in
    let store = store_of c.args.frames.now in
    let e = c.e-item.result in
    let k = c.loop-e.e-index in
    let traps = sym (value_among_all w store c.args.i c.args.inputs.now k e c.loop-e-test.true c.e-item.is _ c.loop-e.invariant.seen)
    ∙ sym c.in_ok-value.ensures ∙ ap got_value c.in-Trap.is in
    values_stop w store c.args.i (drop k c.args.inputs.now) (drop (k + 1) c.args.inputs.now) e c.loop-e.values (values_there w store c.args.i c.args.inputs.now)
    (drop_next c.args.inputs.now k e c.loop-e-test.true c.e-item.is) traps c.loop-e.invariant.values

pub loop-e-preserved : goal.loop-e-preserved
loop-e-preserved c =
    let w = setting_in c.args.w.now in
    let store = store_of c.args.frames.now in
    let e = c.e-item.result in
    let k = c.loop-e.e-index in
    let gives = sym (value_among_all w store c.args.i c.args.inputs.now k e c.loop-e-test.true c.e-item.is _ c.loop-e.invariant.seen)
    ∙ sym c.in_ok-value.ensures ∙ ap got_value c.in-Val.is in
    record {
      seen = c.loop-e.invariant.seen;
      values = values_step w store c.args.i (drop k c.args.inputs.now) (drop (k + 1) c.args.inputs.now) e c.in-Val.value c.loop-e.values c.push.new.self
          (values_there w store c.args.i c.args.inputs.now) (drop_next c.args.inputs.now k e c.loop-e-test.true c.e-item.is) gives
          c.in_ok-push-in-Val.ensures.ok c.loop-e.invariant.values;
    }
