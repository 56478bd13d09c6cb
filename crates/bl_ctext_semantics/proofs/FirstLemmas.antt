-- The first of several places.
use Rattle.std.proofs.Common.{◌≡◌, ℕ, ◌<◌, ◌≤◌, Bool, true, false, ◌&&◌, ◌||◌, List, [], ◌∷◌, ◌++◌, Option, Some, None, refl, ap, sym, ◌∙◌, arith}
use Rattle.std.proofs.lemmas.Grind.{common_steps}
use Rattle.bl_tree.specs.declared.place.Place.{Place}
use Rattle.bl_tree.specs.Reduce.{joined}
use Rattle.bl_ctext_semantics.specs.Faults.{Fault, earlier_of, first_place}

pub earlier_of-assoc : (a b c : Option Place) → earlier_of a (earlier_of b c) ≡ earlier_of (earlier_of a b) c
earlier_of-assoc None b c = refl
earlier_of-assoc (Some a) None c = refl
earlier_of-assoc (Some a) (Some b) None = grind (arith, common_steps)
earlier_of-assoc (Some a) (Some b) (Some c) = grind (arith, common_steps)

pub first_place-append : (xs ys : List Fault) → first_place (xs ++ ys) ≡ earlier_of (first_place xs) (first_place ys)
first_place-append [] ys = refl
first_place-append (x ∷ xs) ys =
    ap (λ p. earlier_of (Some x.at) p) (first_place-append xs ys) ∙ earlier_of-assoc (Some x.at) (first_place xs) (first_place ys)

pub ruleset places = (first_place-append)

-- one more list of faults
pub fault-next : (faults : List Fault) (rest : List (List Fault)) (first x : Option Place) →
    earlier_of first (first_place (joined (faults ∷ rest))) ≡ x → earlier_of (earlier_of first (first_place faults)) (first_place (joined rest)) ≡ x
fault-next faults rest first x h =
    sym (earlier_of-assoc first (first_place faults) (first_place (joined rest)))
    ∙ ap (λ p. earlier_of first p) (sym (first_place-append faults (joined rest))) ∙ h
