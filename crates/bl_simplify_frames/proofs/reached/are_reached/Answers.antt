use Rattle.std.proofs.Common.{List, [], ◌∷◌, subst}
use Rattle.bl_simplify_facts.specs.declared.entries.Entry.{Entry}
use Rattle.bl_simplify_facts.specs.Entries.{facts_of, valuation}
use Rattle.bl_simplify_steps.specs.inner.Looser.{Looser}
use Rattle.bl_simplify_frames.proofs.OnBodies.{looser-done, looser-next}
use Rattle.bl_simplify_frames.proofs.reached.are_reached.Goals as goal

pub loop-exit-preserved : goal.loop-exit-preserved
loop-exit-preserved c =
    looser-next c.args.exits.now c.loop-exit.exit-index c.exit-item.result c.loop-exit.all c.in_ok-here.here (facts_of c.args.reached.now)
    c.loop-exit-test.true c.exit-item.is
    (λ h. subst (λ (l : List Entry). Looser (valuation l ∷ []) (facts_of c.args.reached.now)) c.deref.ensures (c.in_ok-here.ensures h)) c.loop-exit.invariant

pub returns : goal.returns
returns c =
    looser-done c.args.exits.now c.loop-exit.exit-index c.loop-exit.all (facts_of c.args.reached.now) c.loop-exit-test.false c.loop-exit.invariant
