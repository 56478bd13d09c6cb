-- What is found first is why a program is refused, and where nothing is found it passes.
use Rattle.std.proofs.Common.{◌≡◌, ℕ, List, [], ◌++◌, inl, inr, ⊎_elim, Some, None, refl, sym, ap, ◌∙◌, subst}
use Rattle.std.specs.Prelude.{slice_get}
use Rattle.bl_tree.specs.declared.place.Place.{Place}
use Rattle.bl_tree.specs.declared.rule.Failure.{Failure}
use Rattle.bl_tree.specs.declared.rule.Refusal.{Refusal}
use Rattle.bl_tree.specs.declared.rule.Rule.{Rule}
use Rattle.bl_tree.specs.declared.rule.Rule.TheVariants as rule
use Rattle.bl_tree.specs.declared.tree.StructDef.{StructDef}
use Rattle.bl_tree.specs.declared.tree.Unit.{Unit as UnitDef}
use Rattle.bl_tree.specs.Rules.{FailsAmong, IsCause, Refuses, first_of, further_places}
use Rattle.bl_tree.proofs.FirstLemmas.{In, alike_first, alike_passes, contains_in, first_fails, in_contains, is_cause, none_passes}
use Rattle.bl_limits_measures.specs.Types.{nesting, struct_nestings}
use Rattle.bl_limits_measures.specs.Units.{all_chains, cells_at, instances_at}
use Rattle.bl_limits.specs.Rules.{Fails, FailsCells, FailsFrames, FailsNesting, NestingFails, NestingPasses, Passes}
use Rattle.bl_limits.specs.inner.Failures.{chain_failures, failure_at, failures, large_state, many_instances, nesting_failures, of_variable, struct_failures}
use Rattle.bl_limits.specs.inner.Failures.{unit_variable_failures, variable_failures}
use Rattle.bl_limits.proofs.Members.{above_in, append_left, append_right, at_unit_in, in_above, in_append, in_at_unit, in_joined, in_later, in_numbered}
use Rattle.bl_limits.proofs.Members.{joined_in, later_in, numbered_in}

-- ---- nesting

module _ (from : ℕ) (structs : List StructDef) (units : List UnitDef) where
  abbrev deep : List Failure
  deep = nesting_failures from structs units

  -- a type that is nested too deep, at this place
  record Nested (x : Failure) : Type 0 where
    pub at : Place
    pub is : x ≡ failure_at rule.Cells at
    pub fails : FailsNesting from structs units at

  nested_structs : (x : Failure) → In x (struct_failures from structs) → Nested x
  nested_structs x h =
      let it = in_later rule.Cells 100 (λ (def : StructDef). def.place) from structs (struct_nestings structs) x h in
      record {
        at = it.1.place;
        is = it.5;
        fails = inl (record { position = it.0; later = it.2; def = it.1; is_there = it.3; deep = it.4; at_name = refl });
      }

  nested_variables : (x : Failure) → In x (variable_failures structs units) → Nested x
  nested_variables x h =
      let outer = in_joined (λ (unit : UnitDef). unit_variable_failures structs unit.vars) x units h in
      let inner = in_joined (of_variable structs) x outer.0.vars outer.2 in
      let it = in_above 100 (nesting structs inner.0.ty) (failure_at rule.Cells inner.0.place) x inner.2 in
      record {
        at = inner.0.place;
        is = it.1;
        fails = inr (record {
          unit = outer.0;
          of_program = in_contains outer.0 units outer.1;
          var = inner.0;
          of_unit = in_contains inner.0 outer.0.vars inner.1;
          deep = it.0;
          at_name = refl;
        });
      }

  nested : (x : Failure) → In x deep → Nested x
  nested x h = ⊎_elim (nested_structs x) (nested_variables x) (in_append x (struct_failures from structs) (variable_failures structs units) h)

  nesting_in : (p : Place) → FailsNesting from structs units p → In (failure_at rule.Cells p) deep
  nesting_in p h =
      ⊎_elim
      (λ def. subst (λ p. In (failure_at rule.Cells p) deep) (sym def.at_name)
      (append_left (failure_at rule.Cells def.def.place) (struct_failures from structs) (variable_failures structs units)
      (later_in rule.Cells 100 (λ (def : StructDef). def.place) from structs (struct_nestings structs) def.position def.def def.later def.is_there def.deep)))
      (λ var. subst (λ p. In (failure_at rule.Cells p) deep) (sym var.at_name)
      (append_right (failure_at rule.Cells var.var.place) (struct_failures from structs) (variable_failures structs units)
      (joined_in (λ (unit : UnitDef). unit_variable_failures structs unit.vars) (failure_at rule.Cells var.var.place) var.unit units
      (contains_in var.unit units var.of_program)
      (joined_in (of_variable structs) (failure_at rule.Cells var.var.place) var.var var.unit.vars (contains_in var.var var.unit.vars var.of_unit)
      (above_in 100 (nesting structs var.var.ty) (failure_at rule.Cells var.var.place) var.deep)))))
      h

  to_nesting : (r : Rule) (p : Place) (a : List Place) → FailsAmong deep r p a → NestingFails from structs units r p a
  to_nesting r p a among =
      let it = nested among.failure (contains_in among.failure deep among.is_there) in
      let of_rule : r ≡ rule.Cells = among.of_rule ∙ ap (λ (f : Failure). f.rule) it.is in
      let at_place : p ≡ it.at = among.at_place ∙ ap (λ (f : Failure). f.at) it.is in
      let further : a ≡ [] = among.further ∙ ap (λ (f : Failure). further_places f.further) it.is in
      subst (λ r. NestingFails from structs units r p a) (sym of_rule) (subst (FailsNesting from structs units) (sym at_place) it.fails, further)

  from_nesting : (r : Rule) (p : Place) (a : List Place) → NestingFails from structs units r p a → FailsAmong deep r p a
  from_nesting rule.Cells p a h = record {
    failure = failure_at rule.Cells p;
    is_there = in_contains (failure_at rule.Cells p) deep (nesting_in p h.0);
    of_rule = refl;
    at_place = refl;
    further = h.1;
  }
  from_nesting _ p a h = absurd h

  pub nesting_passes : first_of None deep ≡ None → NestingPasses from structs units
  nesting_passes is = alike_passes (FailsAmong deep) (NestingFails from structs units) to_nesting from_nesting (none_passes deep is)

  pub nesting_cause : (first : Failure) (told : Refusal) → first_of None deep ≡ Some first → Refuses first told →
      IsCause (NestingFails from structs units) told
  nesting_cause first told is tells =
      is_cause (NestingFails from structs units) first told
      (alike_first (FailsAmong deep) (NestingFails from structs units) to_nesting from_nesting first.rule first.at (further_places first.further)
      (first_fails deep first is)) tells

-- ---- all of both rules

module _ (structs : List StructDef) (units : List UnitDef) (entry : ℕ) where
  abbrev all : List Failure
  all = failures structs units entry

  -- the lists, one after another
  abbrev after_cells : List Failure
  after_cells = nesting_failures 0 structs units

  abbrev after_chains : List Failure
  after_chains = large_state structs units entry ++ after_cells

  abbrev after_instances : List Failure
  after_instances = chain_failures units ++ after_chains

  -- a failure of this rule at this place
  record Found (x : Failure) : Type 0 where
    pub rule : Rule
    pub at : Place
    pub is : x ≡ failure_at rule at
    pub fails : Fails structs units entry rule at []

  found_instances : (x : Failure) → In x (many_instances units entry) → Found x
  found_instances x h =
      let it = in_at_unit rule.Frames 4_096 (instances_at units entry) (slice_get units entry) x h in
      record {
        rule = rule.Frames;
        at = it.0.place;
        is = it.3;
        fails = (inl (record { unit = it.0; is_entry = it.1; many = it.2; at_name = refl }), refl);
      }

  found_chains : (x : Failure) → In x (chain_failures units) → Found x
  found_chains x h =
      let it = in_numbered rule.Frames 100 (λ (unit : UnitDef). unit.place) units (all_chains units) x h in
      record {
        rule = rule.Frames;
        at = it.1.place;
        is = it.4;
        fails = (inr (record { position = it.0; unit = it.1; heads = it.2; long = it.3; at_name = refl }), refl);
      }

  found_state : (x : Failure) → In x (large_state structs units entry) → Found x
  found_state x h =
      let it = in_at_unit rule.Cells 1_000_000 (cells_at structs units entry) (slice_get units entry) x h in
      record {
        rule = rule.Cells;
        at = it.0.place;
        is = it.3;
        fails = (inl (record { unit = it.0; is_entry = it.1; large = it.2; at_name = refl }), refl);
      }

  found_nesting : (x : Failure) → In x after_cells → Found x
  found_nesting x h =
      let it = nested 0 structs units x h in
      record { rule = rule.Cells; at = it.at; is = it.is; fails = (inr it.fails, refl) }

  found : (x : Failure) → In x all → Found x
  found x h =
      ⊎_elim (found_instances x)
      (λ h. ⊎_elim (found_chains x)
      (λ h. ⊎_elim (found_state x) (found_nesting x)
      (in_append x (large_state structs units entry) after_cells h))
      (in_append x (chain_failures units) after_chains h))
      (in_append x (many_instances units entry) after_instances h)

  to : (r : Rule) (p : Place) (a : List Place) → FailsAmong all r p a → Fails structs units entry r p a
  to r p a among =
      let it = found among.failure (contains_in among.failure all among.is_there) in
      let of_rule : r ≡ it.rule = among.of_rule ∙ ap (λ (f : Failure). f.rule) it.is in
      let at_place : p ≡ it.at = among.at_place ∙ ap (λ (f : Failure). f.at) it.is in
      let further : a ≡ [] = among.further ∙ ap (λ (f : Failure). further_places f.further) it.is in
      subst (λ r. Fails structs units entry r p a) (sym of_rule)
      (subst (λ p. Fails structs units entry it.rule p a) (sym at_place) (subst (λ a. Fails structs units entry it.rule it.at a) (sym further) it.fails))

  among : (r : Rule) (p q : Place) (a : List Place) → In (failure_at r q) all → p ≡ q → a ≡ [] → FailsAmong all r p a
  among r p q a there at none = record {
    failure = failure_at r q;
    is_there = in_contains (failure_at r q) all there;
    of_rule = refl;
    at_place = at;
    further = none;
  }

  from_frames : (p : Place) (a : List Place) → FailsFrames units entry p → a ≡ [] → FailsAmong all rule.Frames p a
  from_frames p a h none =
      ⊎_elim
      (λ many. among rule.Frames p many.unit.place a
      (append_left (failure_at rule.Frames many.unit.place) (many_instances units entry) after_instances
      (at_unit_in rule.Frames 4_096 (instances_at units entry) (slice_get units entry) many.unit many.is_entry many.many)) many.at_name none)
      (λ long. among rule.Frames p long.unit.place a
      (append_right (failure_at rule.Frames long.unit.place) (many_instances units entry) after_instances
      (append_left (failure_at rule.Frames long.unit.place) (chain_failures units) after_chains
      (numbered_in rule.Frames 100 (λ (unit : UnitDef). unit.place) units (all_chains units) long.position long.unit long.heads long.long)))
      long.at_name none) h

  -- what stands behind the failures of rule Frames
  behind : (x : Failure) → In x after_chains → In x all
  behind x h = append_right x (many_instances units entry) after_instances (append_right x (chain_failures units) after_chains h)

  from_cells : (p : Place) (a : List Place) → FailsCells structs units entry p → a ≡ [] → FailsAmong all rule.Cells p a
  from_cells p a h none =
      ⊎_elim
      (λ large. among rule.Cells p large.unit.place a
      (behind (failure_at rule.Cells large.unit.place)
      (append_left (failure_at rule.Cells large.unit.place) (large_state structs units entry) after_cells
      (at_unit_in rule.Cells 1_000_000 (cells_at structs units entry) (slice_get units entry) large.unit large.is_entry large.large))) large.at_name none)
      (λ nested. among rule.Cells p p a
      (behind (failure_at rule.Cells p)
      (append_right (failure_at rule.Cells p) (large_state structs units entry) after_cells (nesting_in 0 structs units p nested))) refl none) h

  from : (r : Rule) (p : Place) (a : List Place) → Fails structs units entry r p a → FailsAmong all r p a
  from rule.Frames p a h = from_frames p a h.0 h.1
  from rule.Cells p a h = from_cells p a h.0 h.1
  from _ p a h = absurd h

  pub passes : first_of None all ≡ None → Passes structs units entry
  passes is = alike_passes (FailsAmong all) (Fails structs units entry) to from (none_passes all is)

  pub cause : (first : Failure) (told : Refusal) → first_of None all ≡ Some first → Refuses first told → IsCause (Fails structs units entry) told
  cause first told is tells =
      is_cause (Fails structs units entry) first told
      (alike_first (FailsAmong all) (Fails structs units entry) to from first.rule first.at (further_places first.further) (first_fails all first is)) tells
