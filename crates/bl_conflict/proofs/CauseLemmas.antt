-- What is found first is why a program is refused, and where nothing is found it passes.
use Rattle.std.proofs.Common.{◌≡◌, Bool, true, false, ◌&&◌, cond, List, [], ◌∷◌, ◌++◌, map, inl, ⊎_elim, Option, Some, None, refl, sym, subst}
use Rattle.std.specs.Prelude.{slice_get}
use Rattle.std.proofs.lemmas.Bool.{and_from, and_parts}
use Rattle.bl_tree.specs.declared.place.Place.{Place}
use Rattle.bl_tree.specs.declared.rule.Failure.{Failure}
use Rattle.bl_tree.specs.declared.rule.Refusal.{Refusal}
use Rattle.bl_tree.specs.declared.rule.Rule.{Rule}
use Rattle.bl_tree.specs.declared.rule.Rule.TheVariants as rule
use Rattle.bl_tree.specs.declared.tree.Unit.{Unit as UnitDef}
use Rattle.bl_tree.specs.declared.tree.Var.{Var}
use Rattle.bl_tree.specs.Instant.{is_instant_block}
use Rattle.bl_tree.specs.Rules.{FailsAmong, IsCause, Refuses, first_of, further_places}
use Rattle.bl_tree.specs.Static.{overlaps}
use Rattle.bl_tree.specs.Typing.{is_activity}
use Rattle.bl_tree.proofs.FirstLemmas.{In, alike_first, alike_passes, contains_in, first_fails, in_contains, is_cause, none_passes}
use Rattle.bl_effects.specs.declared.marked.Marked.{Marked}
use Rattle.bl_effects.specs.Rules.{Fails, FailsAlias, FailsConflict, FailsInstant, FailsPause, Passes, instant_loops, splits_of}
use Rattle.bl_conflict.specs.inner.Failures.{alias_failures, aliases_of_unit, clash_of, clashes, clashes_at, clashes_of_unit, clashes_under, clashes_with}
use Rattle.bl_conflict.specs.inner.Failures.{conflict_failures, failures, instant_failures, loops_of, of_alias, of_clash, of_loop, of_pause, pause_failures}
use Rattle.bl_conflict.specs.inner.Failures.{pause_of}
use Rattle.bl_conflict.proofs.InLemmas.{append_left, append_right, in_append, in_joined, in_map, joined_in, map_in}

-- ---- tests

in_if : {A : Type 0} (test : Bool) (x a : A) → In a (cond test (x ∷ []) []) → (test ≡ true) × (a ≡ x)
in_if true x a h = (refl, ⊎_elim (λ is. is) (λ none. absurd none) h)
in_if false x a h = absurd h

if_in : {A : Type 0} (test : Bool) (x : A) → test ≡ true → In x (cond test (x ∷ []) [])
if_in true x is = inl refl
if_in false x is = absurd (cc)

in_if_list : {A : Type 0} (test : Bool) (xs : List A) (a : A) → In a (cond test xs []) → (test ≡ true) × In a xs
in_if_list true xs a h = (refl, h)
in_if_list false xs a h = absurd h

if_list_in : {A : Type 0} (test : Bool) (xs : List A) (a : A) → test ≡ true → In a xs → In a (cond test xs [])
if_list_in true xs a is h = h
if_list_in false xs a is h = absurd (cc)

-- ---- each rule's list

record Declared (vars : List Var) (earlier : List Marked) (second : Marked) (failure : Failure) : Type 0 where
  var : Var
  declared : slice_get vars second.path.root ≡ Some var
  there : In failure (clashes_at var.place earlier second)

under_from : (found : Option Var) (vars : List Var) (earlier : List Marked) (second : Marked) (failure : Failure)
    → slice_get vars second.path.root ≡ found → In failure (clashes_under found earlier second) → Declared vars earlier second failure
under_from (Some var) vars earlier second failure is h = record { var = var; declared = is; there = h }
under_from None vars earlier second failure is h = absurd h

module _ (units : List UnitDef) where
  -- the rule fails as the failure says
  abbrev ByName : Failure → Type 0
  ByName failure = Fails units failure.rule failure.at (further_places failure.further)

  pause_from : (failure : Failure) → In failure (pause_failures units) → ByName failure
  pause_from failure h =
      let from = in_joined pause_of units failure h in
      let unit = from.source in
      let made = in_if (is_activity unit.kind && is_instant_block unit.body) (of_pause unit.place) failure from.made in
      let tests = and_parts (is_activity unit.kind) (is_instant_block unit.body) made.0 in
      let fails : FailsPause units unit.place [] =
      record { unit = unit; is_there = in_contains unit units from.is_there; activity = tests.0; ends = tests.1; at_name = refl; alone = refl } in
      subst ByName (sym made.1) fails

  pause_to : (at : Place) (also : List Place) (fails : FailsPause units at also) → In (of_pause fails.unit.place) (pause_failures units)
  pause_to at also fails =
      joined_in pause_of units fails.unit (of_pause fails.unit.place) (contains_in fails.unit units fails.is_there)
      (if_in (is_activity fails.unit.kind && is_instant_block fails.unit.body) (of_pause fails.unit.place)
      (and_from (is_activity fails.unit.kind) (is_instant_block fails.unit.body) fails.activity fails.ends))

  instant_from : (failure : Failure) → In failure (map of_loop (instant_failures units)) → ByName failure
  instant_from failure h =
      let of = in_map of_loop (instant_failures units) failure h in
      let place = of.source in
      let from = in_joined loops_of units place of.is_there in
      let unit = from.source in
      let made = in_if_list (is_activity unit.kind) (instant_loops unit) place from.made in
      let fails : FailsInstant units place [] =
      record {
        unit = unit;
        is_there = in_contains unit units from.is_there;
        activity = made.0;
        place = place;
        loops = in_contains place (instant_loops unit) made.1;
        at_loop = refl;
        alone = refl;
      } in
      subst ByName (sym of.is) fails

  instant_to : (at : Place) (also : List Place) (fails : FailsInstant units at also) → In (of_loop fails.place) (map of_loop (instant_failures units))
  instant_to at also fails =
      map_in of_loop (instant_failures units) fails.place
      (joined_in loops_of units fails.unit fails.place (contains_in fails.unit units fails.is_there)
      (if_list_in (is_activity fails.unit.kind) (instant_loops fails.unit) fails.place fails.activity
      (contains_in fails.place (instant_loops fails.unit) fails.loops)))

  alias_from : (failure : Failure) → In failure (map of_alias (alias_failures units)) → ByName failure
  alias_from failure h =
      let of = in_map of_alias (alias_failures units) failure h in
      let aliased = of.source in
      let from = in_joined aliases_of_unit units aliased of.is_there in
      let fails : FailsAlias units aliased.at (aliased.also ∷ []) =
      record {
        unit = from.source;
        is_there = in_contains from.source units from.is_there;
        aliased = aliased;
        fails = in_contains aliased (aliases_of_unit from.source) from.made;
        at_one = refl;
        at_other = refl;
      } in
      subst ByName (sym of.is) fails

  alias_to : (at : Place) (also : List Place) (fails : FailsAlias units at also) → In (of_alias fails.aliased) (map of_alias (alias_failures units))
  alias_to at also fails =
      map_in of_alias (alias_failures units) fails.aliased
      (joined_in aliases_of_unit units fails.unit fails.aliased (contains_in fails.unit units fails.is_there)
      (contains_in fails.aliased (aliases_of_unit fails.unit) fails.fails))

  conflict_from : (failure : Failure) → In failure (conflict_failures units) → ByName failure
  conflict_from failure h =
      let of_unit = in_joined clashes_of_unit units failure h in
      let unit = of_unit.source in
      let of_split = in_joined (clashes unit.vars) (splits_of unit) failure of_unit.made in
      let split = of_split.source in
      let of_second = in_joined (clashes_with unit.vars split.earlier) split.writes failure of_split.made in
      let second = of_second.source in
      let declared = under_from (slice_get unit.vars second.path.root) unit.vars split.earlier second failure refl of_second.made in
      let of_first = in_joined (clash_of declared.var.place second) split.earlier failure declared.there in
      let first = of_first.source in
      let made = in_if (overlaps first.path second.path) (of_clash declared.var.place second first) failure of_first.made in
      let fails : FailsConflict units first.place (second.place ∷ declared.var.place ∷ []) =
      record {
        unit = unit;
        is_there = in_contains unit units of_unit.is_there;
        split = split;
        stands = in_contains split (splits_of unit) of_split.is_there;
        first = first;
        in_earlier = in_contains first split.earlier of_first.is_there;
        second = second;
        in_later = in_contains second split.writes of_second.is_there;
        overlap = made.0;
        var = declared.var;
        declared = declared.declared;
        at_first = refl;
        at_second = refl;
      } in
      subst ByName (sym made.1) fails

  conflict_to : (at : Place) (also : List Place) (fails : FailsConflict units at also)
      → In (of_clash fails.var.place fails.second fails.first) (conflict_failures units)
  conflict_to at also fails =
      let failure = of_clash fails.var.place fails.second fails.first in
      joined_in clashes_of_unit units fails.unit failure (contains_in fails.unit units fails.is_there)
      (joined_in (clashes fails.unit.vars) (splits_of fails.unit) fails.split failure (contains_in fails.split (splits_of fails.unit) fails.stands)
      (joined_in (clashes_with fails.unit.vars fails.split.earlier) fails.split.writes fails.second failure
      (contains_in fails.second fails.split.writes fails.in_later)
      (subst (λ found. In failure (clashes_under found fails.split.earlier fails.second)) (sym fails.declared)
      (joined_in (clash_of fails.var.place fails.second) fails.split.earlier fails.first failure (contains_in fails.first fails.split.earlier fails.in_earlier)
      (if_in (overlaps fails.first.path fails.second.path) failure fails.overlap)))))

  -- ---- all four

  abbrev pauses : List Failure
  pauses = pause_failures units

  abbrev conflicts : List Failure
  conflicts = conflict_failures units

  abbrev aliases : List Failure
  aliases = map of_alias (alias_failures units)

  abbrev loops : List Failure
  loops = map of_loop (instant_failures units)

  all_from : (failure : Failure) → In failure (failures units) → ByName failure
  all_from failure h =
      ⊎_elim (λ p. pause_from failure p)
      (λ rest. ⊎_elim (λ c. conflict_from failure c)
      (λ rest. ⊎_elim (λ a. alias_from failure a) (λ l. instant_from failure l) (in_append failure aliases loops rest))
      (in_append failure conflicts (aliases ++ loops) rest)) (in_append failure pauses (conflicts ++ (aliases ++ loops)) h)

  -- the four rules fail as some failure says, and no failure says more
  to : (r : Rule) (p : Place) (a : List Place) → FailsAmong (failures units) r p a → Fails units r p a
  to r p a among =
      subst (λ rule. Fails units rule p a) (sym among.of_rule)
      (subst (λ place. Fails units among.failure.rule place a) (sym among.at_place)
      (subst (λ places. Fails units among.failure.rule among.failure.at places) (sym among.further)
      (all_from among.failure (contains_in among.failure (failures units) among.is_there))))

  from : (r : Rule) (p : Place) (a : List Place) → Fails units r p a → FailsAmong (failures units) r p a
  from rule.Pause p a fails =
      let failure = of_pause fails.unit.place in
      record {
        failure = failure;
        is_there = in_contains failure (failures units) (append_left failure pauses (conflicts ++ (aliases ++ loops)) (pause_to p a fails));
        of_rule = refl;
        at_place = fails.at_name;
        further = fails.alone;
      }
  from rule.Conflict p a fails =
      let failure = of_clash fails.var.place fails.second fails.first in
      record {
        failure = failure;
        is_there = in_contains failure (failures units)
            (append_right failure pauses (conflicts ++ (aliases ++ loops)) (append_left failure conflicts (aliases ++ loops) (conflict_to p a fails)));
        of_rule = refl;
        at_place = fails.at_first;
        further = fails.at_second;
      }
  from rule.Alias p a fails =
      let failure = of_alias fails.aliased in
      record {
        failure = failure;
        is_there = in_contains failure (failures units)
            (append_right failure pauses (conflicts ++ (aliases ++ loops))
            (append_right failure conflicts (aliases ++ loops) (append_left failure aliases loops (alias_to p a fails))));
        of_rule = refl;
        at_place = fails.at_one;
        further = fails.at_other;
      }
  from rule.Instant p a fails =
      let failure = of_loop fails.place in
      record {
        failure = failure;
        is_there = in_contains failure (failures units)
            (append_right failure pauses (conflicts ++ (aliases ++ loops))
            (append_right failure conflicts (aliases ++ loops) (append_right failure aliases loops (instant_to p a fails))));
        of_rule = refl;
        at_place = fails.at_loop;
        further = fails.alone;
      }
  from _ p a fails = absurd fails

  -- where nothing is found, none of the four fails
  pub passes : first_of None (failures units) ≡ None → Passes units
  passes is = alike_passes (FailsAmong (failures units)) (Fails units) to from (none_passes (failures units) is)

  -- what is found is the first that fails
  pub cause : (found : Failure) (told : Refusal) → first_of None (failures units) ≡ Some found → Refuses found told → IsCause (Fails units) told
  cause found told is tells =
      is_cause (Fails units) found told
      (alike_first (FailsAmong (failures units)) (Fails units) to from found.rule found.at (further_places found.further) (first_fails (failures units) found is))
      tells
