use Rattle.std.proofs.Common.{ap, ◌∙◌}
use Rattle.std.proofs.lemmas.Option.{slice_get_within}
use Rattle.bl_tree.specs.Typing.{is_activity}
use Rattle.bl_machine.specs.Machines.{IsActivityOf, IsPlainActivityOf}
use Rattle.bl_machine.proofs.Making.{found_next, made_more, made_same, no_activity}
use Rattle.bl_machine.proofs.activities.all.Goals as goal
use Rattle.bl_machine.proofs.activities.all.Goals.{in-Activity+in_ok-activity_at+in_ok-push, in_default}

pub activity_at-requires : goal.activity_at-requires
activity_at-requires c =
    let found = found_next c.args.program.now.units c.deref-unit-items.result.now c.deref-unit-items.ensures c.loop-at.at c.unit-item.result
    c.loop-at-test.true c.unit-item.is IsActivityOf c.args.graphs.now c.args.orders.now c.loop-at.made c.len-next.result
    c.graphs_are_found.ensures.graphs c.graphs_are_found.ensures.orders c.requires.graphs c.requires.orders
    (ap is_activity c.in-Activity.is) c.loop-at.invariant.agrees c.len-next.ensures in record {
      graphs = slice_get_within c.args.graphs.now c.len-next.result found.graph found.has_graph;
      orders = slice_get_within c.args.orders.now c.len-next.result found.order found.has_order;
      found = found;
    }

pub loop-at-preserved : goal.loop-at-preserved
loop-at-preserved c =
    elim c.match-unit.branch [
      | in-Activity+in_ok-activity_at+in_ok-push w ↦ record {
        agrees = made_more c.args.program.now.units c.deref-unit-items.result.now c.deref-unit-items.ensures c.loop-at.at c.unit-item.result
            c.loop-at-test.true c.unit-item.is IsActivityOf c.loop-at.made c.match-unit.made w.in_ok-activity_at.field-0
            (ap is_activity w.in-Activity.is) (w.made-is ∙ w.in_ok-push.ensures.ok) w.in_ok-activity_at.ensures.agrees c.loop-at.invariant.agrees;
        plain = made_more c.args.program.now.units c.deref-unit-items.result.now c.deref-unit-items.ensures c.loop-at.at c.unit-item.result
            c.loop-at-test.true c.unit-item.is IsPlainActivityOf c.loop-at.made c.match-unit.made w.in_ok-activity_at.field-0
            (ap is_activity w.in-Activity.is) (w.made-is ∙ w.in_ok-push.ensures.ok) w.in_ok-activity_at.ensures.plain c.loop-at.invariant.plain;
      }
      | in_default w ↦ record {
        agrees = made_same c.args.program.now.units c.deref-unit-items.result.now c.deref-unit-items.ensures c.loop-at.at c.unit-item.result
            c.loop-at-test.true c.unit-item.is IsActivityOf c.loop-at.made c.match-unit.made
            (no_activity c.unit-item.result.kind w.in_default.not-Activity) w.made-is c.loop-at.invariant.agrees;
        plain = made_same c.args.program.now.units c.deref-unit-items.result.now c.deref-unit-items.ensures c.loop-at.at c.unit-item.result
            c.loop-at-test.true c.unit-item.is IsPlainActivityOf c.loop-at.made c.match-unit.made
            (no_activity c.unit-item.result.kind w.in_default.not-Activity) w.made-is c.loop-at.invariant.plain;
      }
    ]
