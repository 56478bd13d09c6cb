use Rattle.std.proofs.Common.{List, [], ◌∷◌, rules, subst}
use Rattle.bl_simplify_facts.specs.declared.entries.Entry.{Entry}
use Rattle.bl_simplify_facts.specs.Entries.{facts_of, valuation}
use Rattle.bl_simplify_steps.specs.inner.Looser.{Looser}
use Rattle.bl_simplify_frames.proofs.OnBodies.{looser-chain}
use Rattle.bl_simplify_frames.proofs.reached.is_reached.Goals as goal

pub returns-in-Some : goal.returns-in-Some
returns-in-Some c = λ h.
    looser-chain (valuation c.args.exit.now ∷ []) (valuation c.in-Some.case ∷ []) (facts_of c.args.reached.now) (search rules)
    (subst (λ (l : List Entry). Looser (valuation l ∷ []) (facts_of c.args.reached.now)) c.deref.ensures (c.has_case.ensures h))
