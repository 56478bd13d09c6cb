use Rattle.std.proofs.Common.{◌≡◌, ℕ, List, refl, false}
use Rattle.bl_tree.proofs.FirstLemmas.{first_and_places_are_one}
use Rattle.bl_tree.specs.declared.place.Place.{Place}
use Rattle.bl_tree.specs.declared.rule.Rule.{Rule}
use Rattle.bl_tree.specs.declared.rule.Rule.TheVariants as rule
use Rattle.bl_tree.specs.Rules.{tells_walk}
use Rattle.bl_lex.specs.Rules.{Fails}
use Rattle.bl_lex.proofs.laws.first_failure_is_one.Goals as goal

tells_none : (text : List ℕ) (r : Rule) (place : Place) (also : List Place) → Fails text r place also → tells_walk r ≡ false
tells_none text rule.Size place also fails = refl
tells_none text rule.Lex place also fails = refl
tells_none text rule.Profile place also fails = refl
tells_none text _ place also fails = absurd fails

pub returns-clause-one : goal.returns-clause-one
returns-clause-one c = λ text rule other place elsewhere also further one two.
    first_and_places_are_one (Fails text) rule other place elsewhere also further (tells_none text rule place also one.fails) one two

pub returns-clause-none : goal.returns-clause-none
returns-clause-none c = λ text rule place also passes first. passes rule place also first.fails
