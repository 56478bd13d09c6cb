use Rattle.std.proofs.Common.{List, [], ◌∷◌, subst, sym}
use Rattle.bl_simplify_facts.specs.declared.entries.Entry.{Entry}
use Rattle.bl_simplify_facts.specs.Entries.{valuation}
use Rattle.bl_simplify_steps.specs.inner.Looser.{Looser}
use Rattle.bl_simplify_frames.proofs.OnBodies.{nothing}
use Rattle.bl_simplify_frames.proofs.reached.told_of.Goals as goal

pub loop-k-init : goal.loop-k-init
loop-k-init c =
    subst (λ (l : List Entry). Looser (valuation c.args.case.now ∷ []) (valuation l ∷ [])) (sym c.new-told.ensures) (nothing (valuation c.args.case.now))
