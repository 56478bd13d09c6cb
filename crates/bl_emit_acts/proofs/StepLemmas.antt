-- Steps of places that are written alike, one after another.
use Rattle.std.proofs.Common.{◌≡◌, suc, Bool, true, false, ◌&&◌, List, [], ◌∷◌, length, refl, ap, ◌∙◌}
use Rattle.bl_tree.specs.declared.c.CStep.{CStep}
use Rattle.bl_emit_acts.specs.Expressions.{same_step, same_steps}

-- lists of different lengths are no such steps
pub lengths_same : (ps qs : List CStep) → (length ps ≡ length qs → ⊥) → same_steps ps qs ≡ false
lengths_same [] [] differ = absurd (differ refl)
lengths_same [] (q ∷ qs) differ = refl
lengths_same (p ∷ ps) [] differ = refl
lengths_same (p ∷ ps) (q ∷ qs) differ = by (same_step p q) (lengths_same ps qs (λ same. differ (ap suc same)))
  where
    by : (same : Bool) → same_steps ps qs ≡ false → (same && same_steps ps qs) ≡ false
    by true h = h
    by false h = refl
