use Rattle.std.proofs.Common.{List, [], ◌∷◌, subst}
use Rattle.bl_simplify_laws.specs.Rules.{AfterBlock}
use Rattle.bl_simplify_facts.specs.declared.entries.Entry.{Entry}
use Rattle.bl_simplify_facts.specs.Entries.{facts_of, valuation}
use Rattle.bl_simplify_steps.specs.Entry.{known_from}
use Rattle.bl_simplify_frames.proofs.OnBodies.{after-done, after-next}
use Rattle.bl_simplify_frames.proofs.reached.are_left.Goals as goal

pub loop-case-preserved : goal.loop-case-preserved
loop-case-preserved c =
    let f = c.args.function.now in
    after-next c.args.reached.now c.loop-case.case-index c.case-item.result c.loop-case.all c.in_ok-here.here f (facts_of c.args.reached.now)
    c.loop-case-test.true c.case-item.is
    (λ h. subst (λ (l : List Entry). AfterBlock (known_from (valuation l ∷ []) f) f.body (facts_of c.args.reached.now)) c.deref.ensures (c.in_ok-here.ensures h))
    c.loop-case.invariant

pub returns : goal.returns
returns c =
    after-done c.args.reached.now c.loop-case.case-index c.loop-case.all c.args.function.now (facts_of c.args.reached.now) c.loop-case-test.false
    c.loop-case.invariant
