-- The places of `run` statements that were seen.
use Rattle.std.proofs.Common.{◌≡◌, Bool, true, false, cond, not, ◌||◌, List, [], ◌∷◌, ◌++◌, refl, sym, ap, ◌∙◌}
use Rattle.std.specs.BTreeMap.{is_at}
use Rattle.std.specs.BTreeSet.{BTreeSet}
use Rattle.std.specs.List.{list_any}
use Rattle.std.specs.Prelude.{ℕ}
use Rattle.bl_tree.proofs.Basics.{any_push, cond_or}
use Rattle.bl_tree.specs.declared.place.Place.{Place}
use Rattle.bl_effects.specs.Entries.{key_of}
use Rattle.bl_tree.specs.Rules.{same_place}
use Rattle.bl_ctree.specs.declared.instance.Run.{Run}
use Rattle.bl_ctree_store.specs.inner.Expansion.{Sees, has_place, place_cmp, starts_at}
use Rattle.bl_ctree_store.proofs.KeyLemmas.{same_place_key}
use Rattle.bl_tree.proofs.FirstLemmas.{same_true}

-- the set with one more place
pub place_added : (old new : BTreeSet (ℕ × ℕ)) (place q : Place) →
    has_place new q ≡ cond (is_at (place_cmp (key_of place)) (key_of q)) true (has_place old q)
    → has_place new q ≡ (same_place place q || has_place old q)
place_added old new place q is = is ∙ ap (λ b. cond b true (has_place old q)) (same_place_key place q) ∙ cond_or (same_place place q) (has_place old q)

-- a place that was there tells nothing new
pub sees_still : (old new : BTreeSet (ℕ × ℕ)) (place : Place) (runs : List Run) → has_place old place ≡ true →
    ((q : Place) → has_place new q ≡ (same_place place q || has_place old q))
    → Sees old runs → Sees new runs
sees_still old new place runs there grown sees q = grown q ∙ step (same_place place q) refl ∙ sees q
  where
    step : (b : Bool) → same_place place q ≡ b → (b || has_place old q) ≡ has_place old q
    step true is = sym (ap (has_place old) (sym (same_true place q is)) ∙ there)
    step false is = refl

-- one more `run` statement of a place that was added
pub sees_more : (old new : BTreeSet (ℕ × ℕ)) (run : Run) (runs made : List Run) →
    ((q : Place) → has_place new q ≡ (same_place run.place q || has_place old q))
    → made ≡ runs ++ run ∷ [] → Sees old runs → Sees new made
sees_more old new run runs made grown is sees q =
    grown q ∙ ap (λ b. same_place run.place q || b) (sees q) ∙ sym (ap (list_any (starts_at q)) is ∙ any_push (starts_at q) runs run)

-- ---- answers of the set

pub was_there : (there fresh : Bool) → fresh ≡ not there → fresh ≡ false → there ≡ true
was_there true fresh is old = refl
was_there false fresh is old = absurd cc

pub was_new : (there fresh : Bool) → fresh ≡ not there → fresh ≡ true → there ≡ false
was_new true fresh is new = absurd cc
was_new false fresh is new = refl

-- a test of what was seen decides
pub seen_decides : {A : Type 0} (seen : BTreeSet (ℕ × ℕ)) (place : Place) (runs : List Run) (b : Bool) (x y : A) →
    has_place seen place ≡ b → Sees seen runs
    → cond b x y ≡ cond (list_any (starts_at place) runs) x y
seen_decides seen place runs b x y is sees = ap (λ b. cond b x y) (sym is ∙ sees place)
