use Rattle.std.proofs.Common.{refl, sym, ◌∙◌, subst, arith, ◌≡◌, length}
use Rattle.bl_ctree.specs.Points.{points}
use Rattle.bl_ctree_run.specs.Running.{RunState, setting, state}
use Rattle.bl_walk.specs.inner.Ticks.{StepsTo, rests}
use Rattle.bl_walk.proofs.Ticking.{few_steps, left_by, longer_by, none_of, reacted_by, settled_there, stands_by, stands_first}
use Rattle.bl_walk.proofs.tick.react.Goals as goal

pub steps-init : goal.steps-init
steps-init g c = record {
  same = c.count.ensures.setting;
  stands = subst (λ (s : RunState). StepsTo (setting c.args.tree.now) c.args.choice.now (state c.args.tree.now) c.args.choice.now s c.args.places.now)
      (sym c.count.ensures.state)
      (stands_first (setting c.args.tree.now) (state c.args.tree.now) c.args.choice.now c.args.places.now c.requires.1.1);
  left = left_by (setting c.args.tree.now) (setting c.count.new.self) (state c.args.tree.now) (state c.count.new.self)
      c.in_ok-left.left c.count.ensures.setting c.count.ensures.state c.in_ok-left.ensures.count;
}

pub returns-in-Trap-clause-reacted : goal.returns-in-Trap-clause-reacted
returns-in-Trap-clause-reacted g c =
    reacted_by (setting c.args.tree.now) (setting c.steps.tree) c.steps.invariant.same c.args.choice.now (state c.args.tree.now) c.steps.choice
    c.step.new.choice c.in_ok-did.ensures.choice (state c.steps.tree) (state c.step.new.tree) c.steps.places c.step.new.places
    c.steps.invariant.stands c.in_ok-did.did c.in-Trap.is c.in_ok-did.ensures.took

pub steps-smaller : goal.steps-smaller
steps-smaller g c =
    let stands = stands_by (setting c.args.tree.now) (setting c.steps.tree) c.steps.invariant.same c.args.choice.now (state c.args.tree.now) c.steps.choice
    c.step.new.choice c.in_ok-did.ensures.choice (state c.steps.tree) (state c.step.new.tree) c.steps.places c.step.new.places
    c.steps.invariant.stands c.in_ok-did.did c.in-Done.is c.in_ok-did.ensures.took in
    let longer = longer_by (setting c.args.tree.now) (setting c.steps.tree) c.steps.invariant.same c.args.choice.now (state c.args.tree.now) c.steps.choice
    c.step.new.choice c.in_ok-did.ensures.choice (state c.steps.tree) (state c.step.new.tree) c.steps.places c.step.new.places
    c.steps.invariant.stands c.in_ok-did.did c.in-Done.is c.in_ok-did.ensures.took in
    let few = few_steps (setting c.args.tree.now) (state c.args.tree.now) g.most c.requires.0 c.requires.1.0 c.picked_lists_are_steps.ensures
    c.args.choice.now c.step.new.choice (state c.step.new.tree) c.step.new.places stands in
    omega (arith, longer, few)

pub steps-preserved : goal.steps-preserved
steps-preserved g c = record {
  same = c.count-in-steps.ensures.setting ∙ c.step.ensures.setting ∙ c.steps.invariant.same;
  stands = subst (λ (s : RunState). StepsTo (setting c.args.tree.now) c.args.choice.now (state c.args.tree.now) c.step.new.choice s c.step.new.places)
      (sym c.count-in-steps.ensures.state)
      (stands_by (setting c.args.tree.now) (setting c.steps.tree) c.steps.invariant.same c.args.choice.now (state c.args.tree.now) c.steps.choice
      c.step.new.choice c.in_ok-did.ensures.choice (state c.steps.tree) (state c.step.new.tree) c.steps.places c.step.new.places
      c.steps.invariant.stands c.in_ok-did.did c.in-Done.is c.in_ok-did.ensures.took);
  left = left_by (setting c.step.new.tree) (setting c.count-in-steps.new.self) (state c.step.new.tree) (state c.count-in-steps.new.self)
      _ c.count-in-steps.ensures.setting c.count-in-steps.ensures.state c.in_ok-left-2.ensures.count;
}

pub returns-clause-reacted : goal.returns-clause-reacted
returns-clause-reacted g c =
    let w = setting c.args.tree.now in
    let s = state c.steps.tree in
    let counted : c.steps.left ≡ length (points w 0 s.control) =
    left_by (setting c.steps.tree) w s s c.steps.left (sym c.steps.invariant.same) refl c.steps.invariant.left in
    rests c.steps.invariant.stands
    (settled_there w (state c.args.tree.now) g.most c.requires.0 c.requires.1.0 c.picked_lists_are_steps.ensures c.points_are_steps.ensures.still
    c.args.choice.now c.steps.choice s c.steps.places c.steps.invariant.stands
    (none_of (points w 0 s.control) c.steps.left counted (omega (arith, c.steps-test.false))))
