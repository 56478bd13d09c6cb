use Rattle.std.proofs.Common.{◌∷◌, [], ◌++◌, ap, subst, sym}
use Rattle.bl_tree.specs.declared.rule.Refusal.TheVariants as refusal
use Rattle.bl_tree.specs.Rules.{IsCause}
use Rattle.bl_tree.specs.Typing.{is_activity}
use Rattle.bl_cause_trees.specs.Rules.{Fails}
use Rattle.bl_cause_trees.proofs.KeptUnits.{activity_passes, cause_of_earlier, cause_of_two, function_passes}
use Rattle.bl_cause_trees.proofs.units.behind_refused.Goals as goal

pub returns-in-Function : goal.returns-in-Function
returns-in-Function c = λ units cause.
    cause_of_earlier units c.args.unit.now (function_passes units c.args.unit.now (ap is_activity c.in-Function.is))
    (refusal.Rule c.in-Rule.rule c.in-Rule.place c.in-Rule.also) (subst (IsCause (Fails units)) c.in-Rule.is cause)

pub judge_activity-requires : goal.judge_activity-requires
judge_activity-requires c = record { activity = ap is_activity c.in-Activity.is }

pub returns-in-Ok : goal.returns-in-Ok
returns-in-Ok c = λ units cause.
    let judged = c.in-Ok.field-0 in
    cause_of_earlier units c.args.unit.now
    (activity_passes c.args.unit.now judged.peeled judged.ordered.graph judged.ordered.order (ap is_activity c.in-Activity.is) c.in-Ok.ensures.peeled
    c.in-Ok.ensures.graph c.in-Ok.ensures.order) (refusal.Rule c.in-Rule.rule c.in-Rule.place c.in-Rule.also)
    (subst (IsCause (Fails units)) c.in-Rule.is cause)

pub returns : goal.returns
returns c = λ units cause.
    subst (IsCause (Fails (units ++ c.args.unit.now ∷ []))) (sym c.earlier.ensures)
    (cause_of_two units c.args.unit.now c.in-Rule.rule c.in-Rule.place c.in-Rule.also (subst (IsCause (Fails units)) c.in-Rule.is cause) c.in-Err.other
    c.in-Err.ensures.cause)
