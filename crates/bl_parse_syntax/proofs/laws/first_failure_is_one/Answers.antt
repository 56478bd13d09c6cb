use Rattle.std.proofs.Common.{◌≡◌, ℕ, List, refl, false}
use Rattle.bl_tree.proofs.FirstLemmas.{first_and_places_are_one}
use Rattle.bl_tree.specs.declared.place.Place.{Place}
use Rattle.bl_tree.specs.declared.rule.Rule.{Rule}
use Rattle.bl_tree.specs.declared.rule.Rule.TheVariants as rule
use Rattle.bl_tree.specs.declared.token.Token.{Token}
use Rattle.bl_tree.specs.Rules.{tells_walk}
use Rattle.bl_parse_syntax.specs.Rules.{Fails}
use Rattle.bl_parse_syntax.proofs.Once.{no_failure}
use Rattle.bl_parse_syntax.proofs.laws.first_failure_is_one.Goals as goal

tells_none : (size : ℕ) (tokens : List Token) (r : Rule) (place : Place) (also : List Place) → Fails size tokens r place also → tells_walk r ≡ false
tells_none size tokens rule.Depth place also fails = refl
tells_none size tokens rule.Syntax place also fails = refl
tells_none size tokens _ place also fails = absurd fails

pub returns-clause-one : goal.returns-clause-one
returns-clause-one c = λ size tokens rule other place elsewhere also further one two.
    first_and_places_are_one (Fails size tokens) rule other place elsewhere also further (tells_none size tokens rule place also one.fails) one two

pub returns-clause-none : goal.returns-clause-none
returns-clause-none c = no_failure
