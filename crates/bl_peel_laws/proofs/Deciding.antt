-- Places decide on the statements of peeled units.
use Rattle.std.proofs.Common.{◌≡◌, ℕ, true, List, refl, sym, ap, subst, ◌∙◌, inl, inr, ⊎_elim, ◌⊎◌}
use Rattle.std.specs.Prelude.{IsTrue, Some, slice_get}
use Rattle.bl_tree.specs.declared.place.Place.{Place}
use Rattle.bl_tree.specs.declared.tree.Stmt.{Stmt}
use Rattle.bl_tree.specs.declared.tree.Unit.{Unit as UnitDef}
use Rattle.bl_tree.specs.Effects.{reads, writes}
use Rattle.bl_tree.specs.Within.{Effect, PlacesDecide, RunsDecide, RunsIn, StandsIn, StandsInUnits, effect_of, is_run, place_of}
use Rattle.bl_tree.proofs.FirstLemmas.{In, contains_in, in_contains}
use Rattle.bl_parse_tree.specs.Starts.{ascends}
use Rattle.bl_types_laws.specs.Starts.{all_starts}
use Rattle.bl_peel.specs.Units.{UnitPeels, UnitsPeel, is_peeled, kept}
use Rattle.bl_peel_laws.specs.Places.{PeeledPlacesDecide, PeeledRunsDecide}
use Rattle.bl_peel_laws.proofs.Failures.{SourceOf, source_of}
use Rattle.bl_peel_laws.proofs.Origins.{IsCopy, IsTest, OfBlock, all_made, conditions_of, none_there}
use Rattle.bl_peel_laws.proofs.Owners.{condition_later, one_owner, own_of, statement_ascends}

-- ---- where statements come from

-- a statement of the sources, of which another was made
record OfUnits (units : List UnitDef) (made : Stmt) : Type 0 where
  pub source : Stmt
  pub stands : StandsInUnits units source
  pub origin : IsCopy source made ⊎ IsTest source made

of_unit : {unit peeled_unit : UnitDef} → UnitPeels unit peeled_unit → (x : Stmt) → StandsIn peeled_unit.body x → OfBlock unit.body x
of_unit kept x stands =
    record { source = x; stands = stands; origin = inl (record { effect = refl; same_run = λ runs. refl; branch_runs = λ k y runs. runs }) }
of_unit (is_peeled {unit} activity) x stands = all_made unit.body x stands

of_units : {units peeled_units : List UnitDef} → UnitsPeel units peeled_units → (x : Stmt) → StandsInUnits peeled_units x → OfUnits units x
of_units {units} {peeled_units} peel x stands =
    let unit : SourceOf units stands.unit = source_of peel stands.unit (contains_in stands.unit peeled_units stands.is_there) in
    let of : OfBlock unit.unit.body x = of_unit unit.peels x stands.stands in
    record {
      source = of.source;
      stands = record { unit = unit.unit; is_there = in_contains unit.unit units unit.is_there; stands = of.stands };
      origin = of.origin;
    }

-- ---- effects

test_effect : (s x : Stmt) → IsTest s x → effect_of x ≡ record { place = place_of x; reads = reads s; writes = writes s; instant = true }
test_effect s x test =
    λ i. record { place = place_of x; reads = test.has_effect.reads_same i; writes = test.has_effect.writes_same i; instant = test.has_effect.ends i }

module _ (units peeled_units : List UnitDef) (peel : UnitsPeel units peeled_units) (up : ascends (all_starts units) ≡ true) where
  -- a copy has the place of its source
  copy_owns : (s x : Stmt) → IsCopy s x → In (place_of x).start (own_of s)
  copy_owns s x copy = inl (ap (λ (effect : Effect). effect.place.start) copy.effect)

  test_owns : (s x : Stmt) → IsTest s x → In (place_of x).start (conditions_of s)
  test_owns s x test = subst (λ (place : Place). In place.start (conditions_of s)) (sym test.at_test) test.tests

  -- no copy stands where a test does
  copy_apart : (s x t y : Stmt) → StandsInUnits units s → StandsInUnits units t → IsCopy s x → IsTest t y → place_of x ≡ place_of y → ⊥
  copy_apart s x t y one two copy test same =
      let n = (place_of x).start in
      let owns : In n (conditions_of t) = subst (λ (place : Place). In place.start (conditions_of t)) (sym same) (test_owns t y test) in
      let is : s ≡ t = one_owner units up s t one two n (copy_owns s x copy) (inr owns) in
      let at_start : n ≡ (place_of t).start = ap (λ (effect : Effect). effect.place.start) copy.effect ∙ ap (λ s. (place_of s).start) is in
      condition_later t (statement_ascends units up t two) (subst (λ m. In m (conditions_of t)) at_start owns)

  same_effect : (x y : Stmt) (one : OfUnits units x) (two : OfUnits units y) → place_of x ≡ place_of y → effect_of x ≡ effect_of y
  same_effect x y one two same =
      ⊎_elim
      (λ (copy : IsCopy one.source x).
      ⊎_elim
      (λ (other : IsCopy two.source y).
      copy.effect
      ∙ ap effect_of (one_owner units up one.source two.source one.stands two.stands (place_of x).start (copy_owns one.source x copy)
      (subst (λ (place : Place). In place.start (own_of two.source)) (sym same) (copy_owns two.source y other)))
      ∙ sym other.effect)
      (λ (test : IsTest two.source y). absurd (copy_apart one.source x two.source y one.stands two.stands copy test same)) two.origin)
      (λ (test : IsTest one.source x).
      ⊎_elim
      (λ (copy : IsCopy two.source y). absurd (copy_apart two.source y one.source x two.stands one.stands copy test (sym same)))
      (λ (other : IsTest two.source y).
      let is : one.source ≡ two.source =
      one_owner units up one.source two.source one.stands two.stands (place_of x).start (inr (test_owns one.source x test))
      (inr (subst (λ (place : Place). In place.start (conditions_of two.source)) (sym same) (test_owns two.source y other))) in
      test_effect one.source x test
      ∙ (λ i. record { place = same i; reads = reads (is i); writes = writes (is i); instant = true })
      ∙ sym (test_effect two.source y other))
      two.origin)
      one.origin

  places_decide : PlacesDecide peeled_units
  places_decide x y one two same = same_effect x y (of_units peel x one) (of_units peel y two) same

  -- ---- `run` statements

  run_stands : (x : Stmt) → IsTrue (is_run x) → StandsInUnits peeled_units x → StandsInUnits units x
  run_stands x runs stands =
      let of : OfUnits units x = of_units peel x stands in
      ⊎_elim (λ (copy : IsCopy of.source x). subst (StandsInUnits units) (sym (copy.same_run runs)) of.stands)
      (λ (test : IsTest of.source x). absurd (let no = test.no_run in cc)) of.origin

  runs_apart : RunsDecide units → (outer s t : Stmt) (j k : ℕ) → StandsInUnits peeled_units outer → RunsIn outer j s → RunsIn outer k t →
      place_of s ≡ place_of t → j ≡ k
  runs_apart runs outer s t j k stands one two same =
      let of : OfUnits units outer = of_units peel outer stands in
      ⊎_elim
      (λ (copy : IsCopy of.source outer). runs.apart of.source s t j k of.stands (copy.branch_runs j s one) (copy.branch_runs k t two) same)
      (λ (test : IsTest of.source outer).
      absurd
      (none_there j one.branch (subst (λ branches. slice_get branches j ≡ Some one.branch) test.no_branch one.is_there))) of.origin

  runs_decide : RunsDecide units → RunsDecide peeled_units
  runs_decide runs = record {
    same = λ s t one two run_one run_two same. runs.same s t (run_stands s run_one one) (run_stands t run_two two) run_one run_two same;
    apart = runs_apart runs;
  }

pub peeled_places_decide : PeeledPlacesDecide
peeled_places_decide units peeled_units peel up = places_decide units peeled_units peel up

pub peeled_runs_decide : PeeledRunsDecide
peeled_runs_decide units peeled_units peel up runs = runs_decide units peeled_units peel up runs
