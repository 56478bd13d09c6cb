use Rattle.std.proofs.Common.{◌≡◌, ◌∷◌, [], ◌++◌, ap, subst, sym}
use Rattle.bl_tree.specs.declared.rule.Refusal.{Refusal}
use Rattle.bl_tree.specs.declared.rule.Refusal.TheVariants as refusal
use Rattle.bl_tree.specs.Rules.{IsCause}
use Rattle.bl_tree.specs.Typing.{is_activity}
use Rattle.bl_cause_trees.specs.declared.units.Kept.{Kept}
use Rattle.bl_cause_trees.specs.inner.Judging.{AreKept, after_activity, after_function}
use Rattle.bl_cause_trees.specs.Rules.{Fails}
use Rattle.bl_cause_trees.proofs.Results.{if_err, if_ok}
use Rattle.bl_cause_trees.proofs.KeptUnits.{activity_kept, cause_of_last, function_kept, kept_passes}
use Rattle.bl_cause_trees.proofs.units.behind_kept.Goals as goal

pub returns-in-Function-clause-kept : goal.returns-in-Function-clause-kept
returns-in-Function-clause-kept c = λ units are.
    let more = units ++ c.args.unit.now ∷ [] in
    if_ok c.keep_function.result (λ (next : Kept). next ≡ after_function c.args.kept) (AreKept more)
    (λ next is. subst (AreKept more) (sym is) (function_kept units c.args.kept are c.args.unit.now (ap is_activity c.in-Function.is)))
    c.keep_function.ensures.kept

pub returns-in-Function-clause-cause : goal.returns-in-Function-clause-cause
returns-in-Function-clause-cause c = λ units are.
    let more = units ++ c.args.unit.now ∷ [] in
    if_err c.keep_function.result (λ (it : Refusal). it ≡ refusal.NoMemory) (IsCause (Fails more)) (λ it is. subst (IsCause (Fails more)) (sym is) tt)
    c.keep_function.ensures.want

pub judge_activity-requires : goal.judge_activity-requires
judge_activity-requires c = record { activity = ap is_activity c.in-Activity.is }

pub returns-in-Ok-clause-kept : goal.returns-in-Ok-clause-kept
returns-in-Ok-clause-kept c = λ units are.
    let more = units ++ c.args.unit.now ∷ [] in
    let judged = c.in-Ok.judged in
    if_ok c.keep_activity.result (λ (next : Kept). next ≡ after_activity c.args.kept judged) (AreKept more)
    (λ next is.
    subst (AreKept more) (sym is)
    (activity_kept units c.args.kept are c.args.unit.now judged (ap is_activity c.in-Activity.is) c.in-Ok.ensures.peeled c.in-Ok.ensures.graph
    c.in-Ok.ensures.order)) c.keep_activity.ensures.kept

pub returns-in-Ok-clause-cause : goal.returns-in-Ok-clause-cause
returns-in-Ok-clause-cause c = λ units are.
    let more = units ++ c.args.unit.now ∷ [] in
    if_err c.keep_activity.result (λ (it : Refusal). it ≡ refusal.NoMemory) (IsCause (Fails more)) (λ it is. subst (IsCause (Fails more)) (sym is) tt)
    c.keep_activity.ensures.want

pub returns-in-Err-clause-cause : goal.returns-in-Err-clause-cause
returns-in-Err-clause-cause c = λ units are.
    cause_of_last units c.args.unit.now (kept_passes units c.args.kept are) c.in-Err.refusal c.in-Err.ensures.cause
