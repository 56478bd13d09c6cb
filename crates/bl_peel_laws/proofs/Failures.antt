-- Where a rule on effects fails for peeled units, it fails for their sources.
use Rattle.std.proofs.Common.{◌≡◌, List, map, refl, sym, subst, ◌∙◌, inl, inr, ⊎_elim}
use Rattle.std.specs.Prelude.{Contains, IsTrue, Some, slice_get}
use Rattle.bl_tree.specs.declared.place.Place.{Place}
use Rattle.bl_tree.specs.declared.rule.Rule.{Rule}
use Rattle.bl_tree.specs.declared.rule.Rule.TheVariants as rule
use Rattle.bl_tree.specs.declared.tree.Unit.{Unit as UnitDef}
use Rattle.bl_tree.specs.Instant.{is_instant_block}
use Rattle.bl_tree.specs.Reduce.{joined}
use Rattle.bl_tree.specs.Typing.{is_activity}
use Rattle.bl_tree.proofs.FirstLemmas.{In, contains_in, in_contains}
use Rattle.bl_effects.specs.Rules.{Aliased, Fails, FailsAlias, FailsConflict, FailsInstant, FailsPause, aliases_in, instant_loops, splits_of}
use Rattle.bl_peel.specs.Units.{UnitPeels, UnitsPeel, is_peeled, kept, more_units, no_units}
use Rattle.bl_peel.proofs.Keeping.{peeled_keeps}
use Rattle.bl_peel_laws.specs.Rules.{FailuresAreOfSources, PeeledUnitsPass}
use Rattle.bl_peel_laws.proofs.Aliases.{aliases_inherited}
use Rattle.bl_peel_laws.proofs.Conflicts.{SplitWithin, of_body, split_itself, splits_in, splits_inherited}
use Rattle.bl_peel_laws.proofs.Lists.{CoveredBy, Covers, Has, covers_itself, has_in}
use Rattle.bl_peel_laws.proofs.Loops.{loops_inherited, of_block, places_in}

-- ---- units

-- a unit of which another is the peeled one, or which it is
pub record SourceOf (units : List UnitDef) (peeled_unit : UnitDef) : Type 0 where
  pub unit : UnitDef
  pub is_there : In unit units
  pub peels : UnitPeels unit peeled_unit

pub source_of : {units peeled_units : List UnitDef} → UnitsPeel units peeled_units → (peeled_unit : UnitDef) → In peeled_unit peeled_units →
    SourceOf units peeled_unit
source_of no_units peeled_unit there = absurd there
source_of (more_units {unit} one more) peeled_unit there =
    ⊎_elim (λ is. record { unit = unit; is_there = inl refl; peels = subst (UnitPeels unit) (sym is) one })
    (λ later. let source = source_of more peeled_unit later in record { unit = source.unit; is_there = inr source.is_there; peels = source.peels })
    there

-- ---- a unit and its source

place_same : {unit peeled_unit : UnitDef} → UnitPeels unit peeled_unit → peeled_unit.place ≡ unit.place
place_same kept = refl
place_same (is_peeled activity) = refl

kind_same : {unit peeled_unit : UnitDef} → UnitPeels unit peeled_unit → peeled_unit.kind ≡ unit.kind
kind_same kept = refl
kind_same (is_peeled activity) = refl

vars_same : {unit peeled_unit : UnitDef} → UnitPeels unit peeled_unit → peeled_unit.vars ≡ unit.vars
vars_same kept = refl
vars_same (is_peeled activity) = refl

ends_same : {unit peeled_unit : UnitDef} → UnitPeels unit peeled_unit → is_instant_block peeled_unit.body ≡ is_instant_block unit.body
ends_same kept = refl
ends_same (is_peeled {unit} activity) = (peeled_keeps unit.body).instant

aliases_of : {unit peeled_unit : UnitDef} → UnitPeels unit peeled_unit → Has (joined (map aliases_in unit.body)) (joined (map aliases_in peeled_unit.body))
aliases_of (kept {unit}) = covers_itself (λ (x y : Aliased). x ≡ y) (λ x. refl) (joined (map aliases_in unit.body))
aliases_of (is_peeled {unit} activity) = aliases_inherited unit.body

loops_of : {unit peeled_unit : UnitDef} → UnitPeels unit peeled_unit → Has (joined (map places_in unit.body)) (joined (map places_in peeled_unit.body))
loops_of (kept {unit}) = covers_itself (λ (x y : Place). x ≡ y) (λ x. refl) (joined (map places_in unit.body))
loops_of (is_peeled {unit} activity) = loops_inherited unit.body

branches_of : {unit peeled_unit : UnitDef} → UnitPeels unit peeled_unit →
    Covers SplitWithin (joined (map splits_in unit.body)) (joined (map splits_in peeled_unit.body))
branches_of (kept {unit}) = covers_itself SplitWithin split_itself (joined (map splits_in unit.body))
branches_of (is_peeled {unit} activity) = splits_inherited unit.body

-- ---- each rule

module _ {units peeled_units : List UnitDef} (peel : UnitsPeel units peeled_units) (at : Place) (also : List Place) where
  abbrev of : (peeled_unit : UnitDef) → Contains peeled_units peeled_unit → SourceOf units peeled_unit
  of peeled_unit there = source_of peel peeled_unit (contains_in peeled_unit peeled_units there)

  pause_fails : FailsPause peeled_units at also → FailsPause units at also
  pause_fails fails =
      let source : SourceOf units fails.unit = of fails.unit fails.is_there in
      record {
        unit = source.unit;
        is_there = in_contains source.unit units source.is_there;
        activity = subst (λ kind. IsTrue (is_activity kind)) (kind_same source.peels) fails.activity;
        ends = subst (λ ends. IsTrue ends) (ends_same source.peels) fails.ends;
        at_name = fails.at_name ∙ place_same source.peels;
        alone = fails.alone;
      }

  conflict_fails : FailsConflict peeled_units at also → FailsConflict units at also
  conflict_fails fails =
      let source : SourceOf units fails.unit = of fails.unit fails.is_there in
      let covered : CoveredBy SplitWithin (joined (map splits_in source.unit.body)) fails.split =
      branches_of source.peels fails.split
      (subst (In fails.split) (of_body fails.unit.body) (contains_in fails.split (splits_of fails.unit) fails.stands)) in
      record {
        unit = source.unit;
        is_there = in_contains source.unit units source.is_there;
        split = covered.other;
        stands = in_contains covered.other (splits_of source.unit) (subst (In covered.other) (sym (of_body source.unit.body)) covered.is_there);
        first = fails.first;
        in_earlier = in_contains fails.first covered.other.earlier
            (has_in covered.other.earlier fails.split.earlier covered.covers.earlier fails.first
            (contains_in fails.first fails.split.earlier fails.in_earlier));
        second = fails.second;
        in_later = in_contains fails.second covered.other.writes
            (has_in covered.other.writes fails.split.writes covered.covers.writes fails.second (contains_in fails.second fails.split.writes fails.in_later));
        overlap = fails.overlap;
        var = fails.var;
        declared = subst (λ vars. slice_get vars fails.second.path.root ≡ Some fails.var) (vars_same source.peels) fails.declared;
        at_first = fails.at_first;
        at_second = fails.at_second;
      }

  alias_fails : FailsAlias peeled_units at also → FailsAlias units at also
  alias_fails fails =
      let source : SourceOf units fails.unit = of fails.unit fails.is_there in
      record {
        unit = source.unit;
        is_there = in_contains source.unit units source.is_there;
        aliased = fails.aliased;
        fails = in_contains fails.aliased (joined (map aliases_in source.unit.body))
            (has_in (joined (map aliases_in source.unit.body)) (joined (map aliases_in fails.unit.body)) (aliases_of source.peels) fails.aliased
            (contains_in fails.aliased (joined (map aliases_in fails.unit.body)) fails.fails));
        at_one = fails.at_one;
        at_other = fails.at_other;
      }

  instant_fails : FailsInstant peeled_units at also → FailsInstant units at also
  instant_fails fails =
      let source : SourceOf units fails.unit = of fails.unit fails.is_there in
      record {
        unit = source.unit;
        is_there = in_contains source.unit units source.is_there;
        activity = subst (λ kind. IsTrue (is_activity kind)) (kind_same source.peels) fails.activity;
        place = fails.place;
        loops = in_contains fails.place (instant_loops source.unit)
            (subst (In fails.place) (sym (of_block source.unit.body))
            (has_in (joined (map places_in source.unit.body)) (joined (map places_in fails.unit.body)) (loops_of source.peels) fails.place
            (subst (In fails.place) (of_block fails.unit.body) (contains_in fails.place (instant_loops fails.unit) fails.loops))));
        at_loop = fails.at_loop;
        alone = fails.alone;
      }

  by_rule : (rule : Rule) → Fails peeled_units rule at also → Fails units rule at also
  by_rule rule.Pause fails = pause_fails fails
  by_rule rule.Conflict fails = conflict_fails fails
  by_rule rule.Alias fails = alias_fails fails
  by_rule rule.Instant fails = instant_fails fails
  by_rule _ fails = absurd fails

pub failures_are_of_sources : FailuresAreOfSources
failures_are_of_sources units peeled_units rule at also peel fails = by_rule peel at also rule fails

pub peeled_units_pass : PeeledUnitsPass
peeled_units_pass units peeled_units peel passes rule at also fails = passes rule at also (by_rule peel at also rule fails)
