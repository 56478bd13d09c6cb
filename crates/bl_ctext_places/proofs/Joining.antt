-- Lists of places put together.
use Rattle.std.proofs.Common.{◌≡◌, List, [], ◌∷◌, ◌++◌, map, ap, subst, ◌∙◌, refl, sym}
use Rattle.std.proofs.lemmas.List.{append_assoc}
use Rattle.std.proofs.lemmas.Simd.{map-map}
use Rattle.std.specs.Prelude.{Result, Ok, Err, OnOk}
use Rattle.bl_tree.specs.Reduce.{joined}
use Rattle.bl_tree.specs.declared.c.CArg.{CArg}
use Rattle.bl_tree.specs.declared.c.CArg.TheOpen.{CPlace-F}
use Rattle.bl_tree.specs.declared.c.CCall.{CCall}
use Rattle.bl_tree.specs.declared.c.CExpr.{CExpr}
use Rattle.bl_tree.specs.declared.c.CExprKind.{CExprKind}
use Rattle.bl_tree.specs.declared.c.CIndex.{CIndex}
use Rattle.bl_tree.specs.declared.c.CPlace.{CPlace, fold-roll-CPlace, out-CPlace, out-roll-CPlace, roll-CPlace, roll-out-CPlace}
use Rattle.bl_tree.specs.declared.c.CStep.{CStep}
use Rattle.bl_ctext_places.specs.Lists.{inside_step, path_of}
use Rattle.bl_ctext_places.specs.Places.{CPath, StepParts, parts_of_step, places_in_place}

-- one place, and then those in its indices
one_and_rest : {A : Type 0} (before : List A) (place : A) (inside added after whole : List A) → added ≡ before ++ place ∷ [] →
    after ≡ added ++ inside → whole ≡ place ∷ inside → after ≡ before ++ whole
one_and_rest before place inside added after whole add rest is =
    rest ∙ (ap (λ l. l ++ inside) add ∙ (append_assoc before (place ∷ []) inside ∙ ap (λ l. before ++ l) (sym is)))

-- the same, where listing didn't fail
pub place_listed : {A R E : Type 0} (r : Result R E) (before : List A) (place : A) (inside added after whole : List A) → added ≡ before ++ place ∷ [] →
    whole ≡ place ∷ inside → OnOk r (after ≡ added ++ inside) → OnOk r (after ≡ before ++ whole)
place_listed (Ok x) before place inside added after whole add is rest = one_and_rest before place inside added after whole add rest is
place_listed (Err e) before place inside added after whole add is rest = rest

rolled_is : (layer : CPlace-F CArg CExprKind CCall CExpr CIndex CPlace CStep) →
    places_in_place (roll-CPlace layer) ≡ path_of (roll-CPlace layer) ∷ joined (map inside_step layer.steps)
rolled_is layer =
    rw fold-roll-CPlace
    (ap (λ insides. record { through = layer.through; name = layer.name; members = map (λ (s : StepParts). s.member) (map parts_of_step layer.steps) }
    ∷ joined insides) (map-map (λ (s : StepParts). s.inside) parts_of_step layer.steps))

-- a place, and then those in its indices
pub place_is : (p : CPlace) → places_in_place p ≡ path_of p ∷ joined (map inside_step (out-CPlace p).steps)
place_is p =
    subst (λ (q : CPlace). places_in_place q ≡ path_of q ∷ joined (map inside_step (out-CPlace q).steps)) (roll-out-CPlace p)
    (rolled_is (out-CPlace p) ∙ ap (λ (l : CPlace-F CArg CExprKind CCall CExpr CIndex CPlace CStep). path_of (roll-CPlace (out-CPlace p)) ∷ joined (map inside_step l.steps))
    (sym (out-roll-CPlace (out-CPlace p))))
