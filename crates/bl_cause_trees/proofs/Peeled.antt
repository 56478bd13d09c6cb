-- Peeled units are determined, and the rules fail on them as they do for units that have their bodies.
use Rattle.std.proofs.Common.{◌≡◌, true, false, not, List, [], ◌∷◌, ◌⊎◌, inl, inr, ⊎_elim, refl, sym, ap, subst, ◌∙◌, arith}
use Rattle.std.specs.Prelude.{◌≤◌, Contains}
use Rattle.bl_tree.proofs.Basics.{contains_first, contains_further, true_and_false}
use Rattle.bl_graph.specs.declared.tick_graph.Graph.{Graph}
use Rattle.bl_tree.specs.declared.place.Place.{Place}
use Rattle.bl_tree.specs.declared.rule.Rule.TheVariants as rule
use Rattle.bl_tree.specs.declared.tree.Unit.{Unit as UnitDef}
use Rattle.bl_tree.specs.Typing.{is_activity}
use Rattle.bl_cause.specs.Activities.{EachTwo, IsGraphOf}
use Rattle.bl_cause.specs.Fails.{FailsCycle, FailsTwice, Never}
use Rattle.bl_cause.specs.Rules.{FailsInActivity, Passes as GraphsPass}
use Rattle.bl_cause.proofs.AlikeLemmas.{cycle_alike, twice_alike}
use Rattle.bl_cause.proofs.PairLemmas.{each_first, each_second}
use Rattle.bl_cause.proofs.WalkLemmas.{never_twice_never_cycle}
use Rattle.bl_peel.specs.Count.{statement_count}
use Rattle.bl_peel.specs.Peeled.{peeled}
use Rattle.bl_peel.specs.Units as peel
use Rattle.bl_cause_trees.specs.Laws.{PassingUnitsStay, PeeledAreJudged, PeeledAreOne, UnitsArePeeled}
use Rattle.bl_cause_trees.specs.Rules.{FailsInPeeled}
use Rattle.bl_cause_trees.specs.Peeled.{ArePeeled, HasWalk, IsPeeledUnit, clean, of_function, too_large, with_turns}

-- ---- one unit

-- what an activity is that doesn't stay as it is
record NeedsTurns (unit : UnitDef) : Type 0 where
  activity : is_activity unit.kind ≡ true
  walk : HasWalk unit
  fits : statement_count (peeled unit.body) ≤ 10_000

module _ {unit : UnitDef} where
  -- a peeled unit is the unit itself, which needs no turns, or has the peeled body
  which : {peeled_unit : UnitDef} → IsPeeledUnit unit peeled_unit →
      ((unit ≡ peeled_unit) × (NeedsTurns unit → ⊥)) ⊎ ((record unit { body = peeled unit.body } ≡ peeled_unit) × NeedsTurns unit)
  which (of_function function) = inl (refl, λ needs. true_and_false (is_activity unit.kind) needs.activity function)
  which (clean none) = inl (refl, λ needs. none needs.walk)
  which (too_large more) = inl (refl, λ needs. let fits = needs.fits in omega arith)
  which (with_turns activity walk fits) = inr (refl, record { activity = activity; walk = walk; fits = fits })

  pub same_peeled : {peeled_unit other : UnitDef} → IsPeeledUnit unit peeled_unit → IsPeeledUnit unit other → peeled_unit ≡ other
  same_peeled {peeled_unit} {other} one two =
      ⊎_elim
      (λ (own : (unit ≡ peeled_unit) × (NeedsTurns unit → ⊥)).
      ⊎_elim (λ (same : (unit ≡ other) × (NeedsTurns unit → ⊥)). sym own.0 ∙ same.0)
      (λ (needs : (record unit { body = peeled unit.body } ≡ other) × NeedsTurns unit). absurd (own.1 needs.1)) (which two))
      (λ (needs : (record unit { body = peeled unit.body } ≡ peeled_unit) × NeedsTurns unit).
      ⊎_elim (λ (own : (unit ≡ other) × (NeedsTurns unit → ⊥)). absurd (own.1 needs.1))
      (λ (same : (record unit { body = peeled unit.body } ≡ other) × NeedsTurns unit). sym needs.0 ∙ same.0) (which two)) (which one)

  -- a peeled unit is an activity where its unit is one
  pub same_kind : {peeled_unit : UnitDef} → IsPeeledUnit unit peeled_unit → peeled_unit.kind ≡ unit.kind
  same_kind (of_function function) = refl
  same_kind (clean none) = refl
  same_kind (too_large more) = refl
  same_kind (with_turns activity walk fits) = refl

  peels : {peeled_unit : UnitDef} → IsPeeledUnit unit peeled_unit → peel.UnitPeels unit peeled_unit
  peels (of_function function) = peel.kept
  peels (clean none) = peel.kept
  peels (too_large more) = peel.kept
  peels (with_turns activity walk fits) = peel.is_peeled (ap not activity)

-- without a failure of its tick graph a unit has no closed walk
pub walkless : (unit : UnitDef) (graph : Graph) → IsGraphOf unit graph → Never (FailsTwice graph) → Never (FailsCycle graph) → HasWalk unit → ⊥
walkless unit graph own twice cycle has =
    never_twice_never_cycle has.graph
    (λ at also fails. twice at also (twice_alike unit has.graph graph has.of_unit own at also fails))
    (λ at also fails. cycle at also (cycle_alike unit has.graph graph has.of_unit own at also fails)) has.walk has.closed

-- ---- lists of units

pub peeled_are_one : PeeledAreOne
peeled_are_one [] [] [] one two = refl
peeled_are_one [] [] (other ∷ others) one two = absurd two
peeled_are_one [] (peeled_unit ∷ peeled_units) others one two = absurd one
peeled_are_one (unit ∷ units) [] others one two = absurd one
peeled_are_one (unit ∷ units) (peeled_unit ∷ peeled_units) [] one two = absurd two
peeled_are_one (unit ∷ units) (peeled_unit ∷ peeled_units) (other ∷ others) one two =
    λ i. same_peeled one.0 two.0 i ∷ peeled_are_one units peeled_units others one.1 two.1 i

pub units_are_peeled : UnitsArePeeled
units_are_peeled [] [] are = peel.no_units
units_are_peeled [] (peeled_unit ∷ peeled_units) are = absurd are
units_are_peeled (unit ∷ rest) [] are = absurd are
units_are_peeled (unit ∷ rest) (peeled_unit ∷ peeled_units) are = peel.more_units (peels are.0) (units_are_peeled rest peeled_units are.1)

-- ---- how the rules fail

module _ (FailsIn : Graph → Place → List Place → Type 0) (units peeled_units : List UnitDef) (are : ArePeeled units peeled_units)
    (at : Place) (also : List Place) where
  on_bodies : FailsInPeeled FailsIn units at also → FailsInActivity FailsIn peeled_units at also
  on_bodies fails =
      let own = each_first IsPeeledUnit units peeled_units fails.unit are fails.is_there in
      record {
        unit = own.0;
        is_there = own.1;
        activity = ap is_activity (same_kind own.2) ∙ fails.activity;
        graph = fails.graph;
        of_unit = subst (λ it. IsGraphOf it fails.graph) (same_peeled fails.is_peeled own.2) fails.of_peeled;
        fails = fails.fails;
      }

  on_peeled : FailsInActivity FailsIn peeled_units at also → FailsInPeeled FailsIn units at also
  on_peeled fails =
      let own = each_second IsPeeledUnit units peeled_units fails.unit are fails.is_there in
      record {
        unit = own.0;
        is_there = own.1;
        activity = sym (ap is_activity (same_kind own.2)) ∙ fails.activity;
        peeled_unit = fails.unit;
        is_peeled = own.2;
        graph = fails.graph;
        of_peeled = fails.of_unit;
        fails = fails.fails;
      }

pub peeled_units_are_judged : PeeledAreJudged
peeled_units_are_judged units peeled_units are rule.Twice at also =
    (on_bodies FailsTwice units peeled_units are at also, on_peeled FailsTwice units peeled_units are at also)
peeled_units_are_judged units peeled_units are rule.Cycle at also =
    (on_bodies FailsCycle units peeled_units are at also, on_peeled FailsCycle units peeled_units are at also)
peeled_units_are_judged units peeled_units are _ at also = (λ fails. absurd fails, λ fails. absurd fails)

-- ---- units that pass

each_self : {X : Type 0} (R : X → X → Type 0) (xs : List X) → ((x : X) → Contains xs x → R x x) → EachTwo R xs xs
each_self R [] all = tt
each_self R (x ∷ xs) all = (all x (contains_first x xs), each_self R xs (λ y there. all y (contains_further x xs y there)))

own_peeled : (units : List UnitDef) → GraphsPass units → (unit : UnitDef) → Contains units unit → IsPeeledUnit unit unit
own_peeled units pass unit there =
    elim (is_activity unit.kind) as (λ b. is_activity unit.kind ≡ b → IsPeeledUnit unit unit) [
      | false ↦ λ is. of_function is
      | true ↦ λ is.
          clean (λ has.
          never_twice_never_cycle has.graph
          (λ at also fails.
          pass rule.Twice at also
          (record { unit = unit; is_there = there; activity = is; graph = has.graph; of_unit = has.of_unit; fails = fails }))
          (λ at also fails.
          pass rule.Cycle at also
          (record { unit = unit; is_there = there; activity = is; graph = has.graph; of_unit = has.of_unit; fails = fails })) has.walk has.closed)
    ] refl

pub passing_units_stay : PassingUnitsStay
passing_units_stay units pass = each_self IsPeeledUnit units (own_peeled units pass)
