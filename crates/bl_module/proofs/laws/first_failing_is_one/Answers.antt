use Rattle.std.proofs.Common.{◌≡◌, ◌∙◌, List, [], ◌∷◌, ap, true, false, cond, refl, sym}
use Rattle.bl_tree.proofs.FirstLemmas.{first_and_places_are_one, first_is_one}
use Rattle.bl_tree.specs.declared.place.Place.{Place}
use Rattle.bl_tree.specs.declared.rule.Rule.{Rule}
use Rattle.bl_tree.specs.Rules.{compared, tells_walk}
use Rattle.bl_module.specs.Rules.{FailsIn}
use Rattle.bl_module.proofs.laws.first_failing_is_one.Goals as goal

-- of the places that are compared the first is that of the failure
abbrev first_place : Place → List Place → Place
first_place other [] = other
first_place other (place ∷ places) = place

first_compared : (r : Rule) (other place : Place) (also : List Place) → first_place other (compared r place also) ≡ place
first_compared r other place also = elim (tells_walk r) as (λ walk. first_place other (cond walk (place ∷ []) (place ∷ also)) ≡ place)
    [ true ↦ refl | false ↦ refl ]

abbrev but_first : List Place → List Place
but_first [] = []
but_first (place ∷ places) = places

pub returns-clause-one : goal.returns-clause-one
returns-clause-one c = λ behind taken text rule other place elsewhere also further one two.
    let same = first_is_one (FailsIn behind taken text) rule other place elsewhere also further one two in
    (same.rule, sym (first_compared rule place place also) ∙ ap (first_place place) same.places ∙ first_compared rule place elsewhere further)

pub returns-clause-further : goal.returns-clause-further
returns-clause-further c = λ behind taken text rule other place elsewhere also further one two no_walk.
    let same = first_and_places_are_one (FailsIn behind taken text) rule other place elsewhere also further no_walk one two in
    ap but_first same.1

pub returns-clause-none : goal.returns-clause-none
returns-clause-none c = λ behind taken text rule place also passes first. passes rule place also first.fails
