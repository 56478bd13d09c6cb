use Rattle.std.proofs.Common.{◌≡◌, false, List, ap, ⊎_elim}
use Rattle.bl_tree.proofs.FirstLemmas.{first_and_places_are_one}
use Rattle.bl_tree.specs.declared.place.Place.{Place}
use Rattle.bl_tree.specs.declared.rule.Rule.{Rule}
use Rattle.bl_tree.specs.Rules.{tells_walk}
use Rattle.bl_names_scopes.specs.Marks.{Marks}
use Rattle.bl_names_scopes.specs.Rules.{FailsBehind}
use Rattle.bl_names_scopes.specs.Scopes.{Scopes}
use Rattle.bl_names_scopes.proofs.laws.first_failure_is_one.Goals as goal

tells_none : (start : Scopes) (marks : Marks) (r : Rule) (place : Place) (also : List Place) → FailsBehind start marks r place also → tells_walk r ≡ false
tells_none start marks r place also fails =
    ⊎_elim (λ p. ap tells_walk p.0) (λ rest. ⊎_elim (λ p. ap tells_walk p.0) (λ p. ap tells_walk p.0) rest) fails

pub returns-clause-one : goal.returns-clause-one
returns-clause-one c = λ start marks rule other place elsewhere also further one two.
    first_and_places_are_one (FailsBehind start marks) rule other place elsewhere also further (tells_none start marks rule place also one.fails) one two

pub returns-clause-none : goal.returns-clause-none
returns-clause-none c = λ start marks rule place also passes first. passes rule place also first.fails
