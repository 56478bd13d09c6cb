-- Each rule fails at the images of places, where places are mapped.
use Rattle.std.proofs.Common.{◌≡◌, List, [], ◌∷◌, map, refl, ap, ap₂, sym, subst, ◌∙◌}
use Rattle.std.specs.Prelude.{◌↔◌, Contains, IsTrue, slice_get}
use Rattle.bl_tree.proofs.Basics.{contains_mapped, get_mapped}
use Rattle.bl_tree.specs.declared.place.Place.{Place}
use Rattle.bl_tree.specs.declared.rule.Rule.TheVariants as rule
use Rattle.bl_tree.specs.declared.tree.Unit.{Unit as UnitDef}
use Rattle.bl_tree.specs.declared.tree.Var.{Var}
use Rattle.bl_tree.specs.Instant.{is_instant_block}
use Rattle.bl_tree.specs.Reduce.{joined}
use Rattle.bl_tree.specs.Static.{overlaps}
use Rattle.bl_tree.specs.Typing.{is_activity}
use Rattle.bl_tree_laws_places.specs.Laws.{FailsMoved}
use Rattle.bl_tree_laws_places.specs.Placed.{placed_unit, placed_units, placed_var}
use Rattle.bl_tree_laws_places.proofs.Effects.{instant_block_stays}
use Rattle.bl_tree_laws_places.proofs.Lists.{Made, from_got, from_map}
use Rattle.bl_effects.specs.declared.marked.Marked.{Marked}
use Rattle.bl_effects.specs.Rules.{Aliased, Fails, FailsAlias, FailsConflict, FailsInstant, FailsPause, Split, aliases_in, instant_loops, splits_of}
use Rattle.bl_effects_laws_places.specs.Laws.{FailuresMove, PassingStays}
use Rattle.bl_effects_laws_places.proofs.Aliases.{aliases_move, moved_aliased}
use Rattle.bl_effects_laws_places.proofs.Loops.{instant_loops_move}
use Rattle.bl_effects_laws_places.proofs.Parallels.{moved_marked, moved_split, splits_move}

module _ (f : Place → Place) (units : List UnitDef) where
  -- a unit with its places mapped, by the unit
  from_unit : (unit : UnitDef) → Contains (placed_units f units) unit → Made (placed_unit f) units unit
  from_unit unit there = from_map (placed_unit f) units unit there

  -- ---- Pause

  pause_from : (at : Place) (also : List Place) → FailsPause (placed_units f units) at also → FailsMoved f (Fails units) rule.Pause at also
  pause_from at also h = let unit = from_unit h.unit h.is_there in record {
    source = unit.source.place;
    further = [];
    fails = record {
      unit = unit.source;
      is_there = unit.is_there;
      activity = subst (λ (u : UnitDef). IsTrue (is_activity u.kind)) unit.is h.activity;
      ends = subst IsTrue (ap (λ (u : UnitDef). is_instant_block u.body) unit.is ∙ instant_block_stays f unit.source.body) h.ends;
      at_name = refl;
      alone = refl;
    };
    is_at = h.at_name ∙ ap (λ (u : UnitDef). u.place) unit.is;
    is_also = h.alone;
  }

  pause_to : (at : Place) (also : List Place) → FailsMoved f (Fails units) rule.Pause at also → FailsPause (placed_units f units) at also
  pause_to at also h = let fails : FailsPause units h.source h.further = h.fails in record {
    unit = placed_unit f fails.unit;
    is_there = contains_mapped (placed_unit f) units fails.unit fails.is_there;
    activity = fails.activity;
    ends = subst IsTrue (sym (instant_block_stays f fails.unit.body)) fails.ends;
    at_name = h.is_at ∙ ap f fails.at_name;
    alone = h.is_also ∙ ap (map f) fails.alone;
  }

  -- ---- Conflict

  conflict_from : (at : Place) (also : List Place) → FailsConflict (placed_units f units) at also →
      FailsMoved f (Fails units) rule.Conflict at also
  conflict_from at also h =
      let unit = from_unit h.unit h.is_there in
      let split = from_map (moved_split f) (splits_of unit.source) h.split
      (subst (λ splits. Contains splits h.split) (ap splits_of unit.is ∙ splits_move f unit.source) h.stands) in
      let first = from_map (moved_marked f) split.source.earlier h.first
      (subst (λ (s : Split). Contains s.earlier h.first) split.is h.in_earlier) in
      let second = from_map (moved_marked f) split.source.writes h.second
      (subst (λ (s : Split). Contains s.writes h.second) split.is h.in_later) in
      let var = from_got (placed_var f) unit.source.vars second.source.path.root h.var
      (ap₂ (λ (u : UnitDef) (m : Marked). slice_get u.vars m.path.root) (sym unit.is) (sym second.is) ∙ h.declared) in
      record {
        source = first.source.place;
        further = second.source.place ∷ var.source.place ∷ [];
        fails = record {
          unit = unit.source;
          is_there = unit.is_there;
          split = split.source;
          stands = split.is_there;
          first = first.source;
          in_earlier = first.is_there;
          second = second.source;
          in_later = second.is_there;
          overlap = subst IsTrue (ap₂ (λ (a b : Marked). overlaps a.path b.path) first.is second.is) h.overlap;
          var = var.source;
          declared = var.got;
          at_first = refl;
          at_second = refl;
        };
        is_at = h.at_first ∙ ap (λ (m : Marked). m.place) first.is;
        is_also = h.at_second ∙ ap₂ (λ (m : Marked) (v : Var). m.place ∷ v.place ∷ []) second.is var.is;
      }

  conflict_to : (at : Place) (also : List Place) → FailsMoved f (Fails units) rule.Conflict at also →
      FailsConflict (placed_units f units) at also
  conflict_to at also h = let fails : FailsConflict units h.source h.further = h.fails in record {
    unit = placed_unit f fails.unit;
    is_there = contains_mapped (placed_unit f) units fails.unit fails.is_there;
    split = moved_split f fails.split;
    stands = subst (λ splits. Contains splits (moved_split f fails.split)) (sym (splits_move f fails.unit))
        (contains_mapped (moved_split f) (splits_of fails.unit) fails.split fails.stands);
    first = moved_marked f fails.first;
    in_earlier = contains_mapped (moved_marked f) fails.split.earlier fails.first fails.in_earlier;
    second = moved_marked f fails.second;
    in_later = contains_mapped (moved_marked f) fails.split.writes fails.second fails.in_later;
    overlap = fails.overlap;
    var = placed_var f fails.var;
    declared = get_mapped (placed_var f) fails.unit.vars fails.second.path.root fails.var fails.declared;
    at_first = h.is_at ∙ ap f fails.at_first;
    at_second = h.is_also ∙ ap (map f) fails.at_second;
  }

  -- ---- Alias

  alias_from : (at : Place) (also : List Place) → FailsAlias (placed_units f units) at also → FailsMoved f (Fails units) rule.Alias at also
  alias_from at also h =
      let unit = from_unit h.unit h.is_there in
      let aliased = from_map (moved_aliased f) (joined (map aliases_in unit.source.body)) h.aliased
      (subst (λ failures. Contains failures h.aliased)
      (ap (λ (u : UnitDef). joined (map aliases_in u.body)) unit.is ∙ aliases_move f unit.source.body) h.fails) in
      record {
        source = aliased.source.at;
        further = aliased.source.also ∷ [];
        fails = record {
          unit = unit.source;
          is_there = unit.is_there;
          aliased = aliased.source;
          fails = aliased.is_there;
          at_one = refl;
          at_other = refl;
        };
        is_at = h.at_one ∙ ap (λ (a : Aliased). a.at) aliased.is;
        is_also = h.at_other ∙ ap (λ (a : Aliased). a.also ∷ []) aliased.is;
      }

  alias_to : (at : Place) (also : List Place) → FailsMoved f (Fails units) rule.Alias at also → FailsAlias (placed_units f units) at also
  alias_to at also h = let fails : FailsAlias units h.source h.further = h.fails in record {
    unit = placed_unit f fails.unit;
    is_there = contains_mapped (placed_unit f) units fails.unit fails.is_there;
    aliased = moved_aliased f fails.aliased;
    fails = subst (λ failures. Contains failures (moved_aliased f fails.aliased)) (sym (aliases_move f fails.unit.body))
        (contains_mapped (moved_aliased f) (joined (map aliases_in fails.unit.body)) fails.aliased fails.fails);
    at_one = h.is_at ∙ ap f fails.at_one;
    at_other = h.is_also ∙ ap (map f) fails.at_other;
  }

  -- ---- Instant

  instant_from : (at : Place) (also : List Place) → FailsInstant (placed_units f units) at also →
      FailsMoved f (Fails units) rule.Instant at also
  instant_from at also h =
      let unit = from_unit h.unit h.is_there in
      let place = from_map f (instant_loops unit.source) h.place
      (subst (λ places. Contains places h.place) (ap instant_loops unit.is ∙ instant_loops_move f unit.source) h.loops) in
      record {
        source = place.source;
        further = [];
        fails = record {
          unit = unit.source;
          is_there = unit.is_there;
          activity = subst (λ (u : UnitDef). IsTrue (is_activity u.kind)) unit.is h.activity;
          place = place.source;
          loops = place.is_there;
          at_loop = refl;
          alone = refl;
        };
        is_at = h.at_loop ∙ place.is;
        is_also = h.alone;
      }

  instant_to : (at : Place) (also : List Place) → FailsMoved f (Fails units) rule.Instant at also →
      FailsInstant (placed_units f units) at also
  instant_to at also h = let fails : FailsInstant units h.source h.further = h.fails in record {
    unit = placed_unit f fails.unit;
    is_there = contains_mapped (placed_unit f) units fails.unit fails.is_there;
    activity = fails.activity;
    place = f fails.place;
    loops = subst (λ places. Contains places (f fails.place)) (sym (instant_loops_move f fails.unit))
        (contains_mapped f (instant_loops fails.unit) fails.place fails.loops);
    at_loop = h.is_at ∙ ap f fails.at_loop;
    alone = h.is_also ∙ ap (map f) fails.alone;
  }

-- ---- the laws

pub failures_move : FailuresMove
failures_move f units rule.Pause at also = (pause_from f units at also, pause_to f units at also)
failures_move f units rule.Conflict at also = (conflict_from f units at also, conflict_to f units at also)
failures_move f units rule.Alias at also = (alias_from f units at also, alias_to f units at also)
failures_move f units rule.Instant at also = (instant_from f units at also, instant_to f units at also)
failures_move f units _ at also = (λ h. absurd h, λ h. absurd h.fails)

pub passing_stays : PassingStays
passing_stays f units = (
  λ passes r at also fails.
      passes r (f at) (map f also)
      ((failures_move f units r (f at) (map f also)).1 (record { source = at; further = also; fails = fails; is_at = refl; is_also = refl })),
  λ passes r at also fails.
      let moved = (failures_move f units r at also).0 fails in passes r moved.source moved.further moved.fails,
)
