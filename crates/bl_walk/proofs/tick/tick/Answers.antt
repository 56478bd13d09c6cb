use Rattle.std.proofs.Common.{sym, ◌∙◌, ap, subst}
use Rattle.bl_ctree.specs.Store.{outputs_row}
use Rattle.bl_ctree_run.specs.Running.{setting, state}
use Rattle.bl_walk.specs.inner.Ticks.{Begun, Steady}
use Rattle.bl_walk.proofs.Ticking.{begins, row_by, trap_by}
use Rattle.bl_walk.proofs.tick.tick.Goals as goal

pub react-requires : goal.react-requires
react-requires g c = (
  subst (Steady g.most) (sym c.wake.ensures.setting) c.requires.0,
  (
    subst (λ w. Begun w (state c.wake.new.self)) (sym c.wake.ensures.setting)
        (begins (setting c.args.tree.now) c.args.choice.now c.args.row.now (state c.args.tree.now) c.requires.1.0 (state c.wake.new.self)
        c.in_ok-wake.ensures.state),
    c.new-places.ensures,
  ),
)

pub returns-in-Trap-clause-ticked : goal.returns-in-Trap-clause-ticked
returns-in-Trap-clause-ticked g c =
    trap_by (setting c.args.tree.now) (setting c.wake.new.self) c.wake.ensures.setting c.args.choice.now c.args.row.now (state c.args.tree.now)
    (state c.wake.new.self) c.in_ok-wake.ensures.state c.picked_lists_are_steps.ensures c.react.new.choice (state c.react.new.tree)
    c.react.new.places c.in_ok-did.did c.in_ok-did.ensures.reacted c.args.steps.now c.push.new.self c.in_ok-push.ensures.ok c.in-Trap.is c.args.outs.now

pub returns-in_ok-push-in-Done-clause-ticked : goal.returns-in_ok-push-in-Done-clause-ticked
returns-in_ok-push-in-Done-clause-ticked g c =
    row_by (setting c.args.tree.now) (setting c.wake.new.self) c.wake.ensures.setting c.args.choice.now c.args.row.now (state c.args.tree.now)
    (state c.wake.new.self) c.in_ok-wake.ensures.state c.picked_lists_are_steps.ensures c.react.new.choice (state c.react.new.tree)
    c.react.new.places c.in_ok-did.did c.in_ok-did.ensures.reacted c.args.steps.now c.push.new.self c.in_ok-push.ensures.ok c.in-Done.is
    c.points_are_steps.ensures.still c.settled_trees_are_still.ensures c.args.outs.now c.push-in-Done.new.self c.in_ok-outputs-in-Done.field-0
    c.in_ok-push-in-Done.ensures.ok
    (c.in_ok-outputs-in-Done.ensures ∙ ap (λ w. outputs_row w (state c.react.new.tree).store) (c.react.ensures.setting ∙ c.wake.ensures.setting))
    c.stand.result c.stand.ensures
