-- What passes of a tree behind faces, layer by layer, and of all items together.
use Rattle.std.proofs.Common.{◌≡◌, ◌∙◌, ℕ, Bool, true, false, not, List, [], ◌∷◌, ◌++◌, length, refl, sym, subst, inl, inr, arith}
use Rattle.std.specs.Prelude.{Contains}
use Rattle.bl_tree.proofs.Basics.{contains_none}
use Rattle.bl_cause_trees.specs.Peeled.{ArePeeled}
use Rattle.bl_effects.specs.Rules.{Passes as UnitsPass}
use Rattle.bl_limits.specs.Rules.{Fails as LimitsFail, NestingPasses, Passes as LimitsPass}
use Rattle.bl_module.specs.Faces.{behind_faces}
use Rattle.bl_module.specs.Parts.{IsGoodBehind}
use Rattle.bl_module.specs.Rules.{TreePasses as TreePassesBehind, here, in_bytes, in_graphs, in_names, in_nesting, in_own, in_tree, in_types, in_units}
use Rattle.bl_module.specs.Rules.{known_at, known_in as known_in_tree, named_in, own_units}
use Rattle.bl_module.specs.declared.behind.Behind.{Behind}
use Rattle.bl_module.specs.declared.taken.Taken.TheVariants.{AsLast}
use Rattle.bl_face.specs.declared.face.Face.{Face}
use Rattle.bl_names.specs.Named.{along, blank_unit, blanks, units_of}
use Rattle.bl_names.specs.Order.{order_of}
use Rattle.bl_names_scopes.specs.Marks.{marks_of}
use Rattle.bl_names_scopes.specs.Rules.{PassesBehind as NamesPass}
use Rattle.bl_names_scopes.specs.Scopes.{file_scope, opened_by}
use Rattle.bl_names_tree.specs.declared.item.NamedUnit.{NamedUnit}
use Rattle.bl_names_tree.specs.declared.named.Named.{Named}
use Rattle.bl_parse_tree.specs.declared.item.RawItem.{RawItem}
use Rattle.bl_parse_tree.specs.declared.raw.Raw.{Raw}
use Rattle.bl_rules.specs.Rules.{Parses, TreeFails, TreePasses}
use Rattle.bl_rules.specs.Rules as whole
use Rattle.bl_tree.specs.declared.place.Place.{Place}
use Rattle.bl_tree.specs.declared.rule.Failure.{Failure}
use Rattle.bl_tree.specs.declared.rule.Rule.{Rule}
use Rattle.bl_tree.specs.declared.rule.Rule.TheVariants as rule
use Rattle.bl_tree.specs.declared.tree.StructDef.{StructDef}
use Rattle.bl_tree.specs.declared.tree.Unit.{Unit as UnitDef}
use Rattle.bl_tree.specs.Rules.{FailsAmong, Passes as NoneOf, further_places}
use Rattle.bl_types.specs.Programs.{after_items, failures_behind, fresh, text_end}
use Rattle.bl_types.specs.Rules.{PassesBehind as TypesPass}
use Rattle.bl_types.specs.Units.{entries}
use Rattle.bl_types_program.specs.Programs.{named_of, typed_of}
use Rattle.bl_module_laws.proofs.Borders.{FrontPasses, unmarked_blanks}
use Rattle.bl_module_laws.proofs.Entries.{both_nothing, entries_stand, nothing_left, nothing_right, stand_behind, stand_from, stand_to}
use Rattle.bl_module_laws.proofs.Steps.{NearPasses}
use Rattle.bl_module_laws.specs.Laws.{IsLimit}

-- ---- failures as a list

none_among : (failures : List Failure) → NoneOf (FailsAmong failures) → failures ≡ []
none_among [] passes = refl
none_among (failure ∷ rest) passes =
    absurd (passes failure.rule failure.at (further_places failure.further)
    (record { failure = failure; is_there = (0, omega arith, refl); of_rule = refl; at_place = refl; further = refl }))

among_none : (failures : List Failure) → failures ≡ [] → NoneOf (FailsAmong failures)
among_none failures none of at also fails = contains_none fails.failure (subst (λ them. Contains them fails.failure) none fails.is_there)

-- ---- a tree behind faces

module _ (behind : Behind) (last : Bool) (raw : Raw) where
  abbrev named : Named
  named = named_in behind raw

  abbrev failures : List Failure
  failures = (after_items named (order_of raw.items) (known_at behind)).failures

  abbrev blank : List NamedUnit
  blank = blanks blank_unit behind.headings

  names_pass : TreePassesBehind behind last raw → NamesPass (opened_by behind.headings) (marks_of raw.items)
  names_pass passes of at further fails = passes of at (here further) (in_names further fails refl)

  types_pass : TreePassesBehind behind last raw → TypesPass last (known_at behind) named
  types_pass passes of at also fails = passes of at also (in_types (names_pass passes) fails)

  -- what passes layer by layer
  pub from_tree : TreePassesBehind behind last raw → NearPasses behind last raw
  from_tree passes =
      let names = names_pass passes in
      let types = types_pass passes in
      let none = none_among (failures_behind last (known_at behind) named) types in
      let units : UnitsPass (own_units behind raw) = λ of at also fails. passes of at also (in_own names types (in_units fails)) in
      record {
        names = names;
        none = nothing_left failures (entries (not last) (text_end named) named.units) none;
        entry =
            sym (stand_behind (not last) blank (along units_of (opened_by behind.headings) raw.items) (unmarked_blanks behind.headings))
            ∙ stand_from (not last) (text_end named) named.units (nothing_right failures (entries (not last) (text_end named) named.units) none);
        units = units;
        graphs = λ of at also fails. passes of at also (in_own names types (in_graphs units fails));
      }

  types_from : NearPasses behind last raw → TypesPass last (known_at behind) named
  types_from near =
      among_none (failures_behind last (known_at behind) named)
      (both_nothing failures (entries (not last) (text_end named) named.units) near.none
      (stand_to (not last) (text_end named) named.units
      (stand_behind (not last) blank (along units_of (opened_by behind.headings) raw.items) (unmarked_blanks behind.headings) ∙ near.entry)))

  pub to_tree : NearPasses behind last raw → NestingPasses (length behind.structs) (known_in_tree behind raw).structs (own_units behind raw) →
      TreePassesBehind behind last raw
  to_tree near nesting of at also (in_names further fails is) = near.names of at further fails
  to_tree near nesting of at also (in_types names fails) = types_from near of at also fails
  to_tree near nesting of at also (in_own names types (in_units fails)) = near.units of at also fails
  to_tree near nesting of at also (in_own names types (in_graphs units fails)) = near.graphs of at also fails
  to_tree near nesting of at also (in_own names types (in_nesting units graphs fails)) = nesting of at also fails

-- a text that is good behind faces has a tree that passes
pub good_tree : (faces : List Face) (last : Bool) (text : List ℕ) (face : Face) → IsGoodBehind faces (AsLast last) text face → (raw : Raw) →
    Parses text raw → NearPasses (behind_faces faces) last raw
good_tree faces last text face good raw parses =
    from_tree (behind_faces faces) last raw
    (λ of at also fails.
    good.passes of at also (in_tree raw (λ other place further broken. good.passes other place further (in_bytes broken)) parses fails))

-- ---- all items together

-- no rule from Duplicate to Cycle fails for the items of a whole program
pub record ItemsPass (named : Named) (all : List RawItem) : Type 0 where
  pub front : FrontPasses named all
  pub entry : entries_stand false (along units_of file_scope all) ≡ true

limit_is : (structs : List StructDef) (peeled_units : List UnitDef) (entry : ℕ) (of : Rule) (at : Place) (also : List Place) →
    LimitsFail structs peeled_units entry of at also → IsLimit of
limit_is structs peeled_units entry rule.Frames at also fails = inl refl
limit_is structs peeled_units entry rule.Cells at also fails = inr refl
limit_is structs peeled_units entry _ at also fails = absurd fails

module _ (raw : Raw) where
  abbrev items_fail : List Failure
  items_fail = (after_items (named_of raw) (order_of raw.items) fresh).failures

  abbrev end : Place
  end = text_end (named_of raw)

  pub limits_alone : ItemsPass (named_of raw) raw.items → (of : Rule) (at : Place) (also : List Place) → TreeFails raw of at also → IsLimit of
  limits_alone all of at also (whole.in_names fails) = absurd (all.front.names of at also fails)
  limits_alone all of at also (whole.in_types names fails) =
      absurd (among_none (items_fail ++ entries false end (along units_of file_scope raw.items))
      (both_nothing items_fail (entries false end (along units_of file_scope raw.items)) all.front.none
      (stand_to false end (along units_of file_scope raw.items) all.entry)) of at also fails)
  limits_alone all of at also (whole.in_program names types (whole.in_units fails)) = absurd (all.front.units of at also fails)
  limits_alone all of at also (whole.in_program names types (whole.in_graphs units fails)) = absurd (all.front.graphs of at also fails)
  limits_alone all of at also (whole.in_program names types (whole.in_limits peeled_units units graphs are fails)) =
      limit_is (typed_of raw).structs peeled_units (typed_of raw).entry of at also fails

  pub from_whole : TreePasses raw → ItemsPass (named_of raw) raw.items
  from_whole passes =
      let names : NamesPass file_scope (marks_of raw.items) = λ of at also fails. passes of at also (whole.in_names fails) in
      let types : TypesPass true fresh (named_of raw) = λ of at also fails. passes of at also (whole.in_types names fails) in
      let none = none_among (items_fail ++ entries false end (along units_of file_scope raw.items)) types in
      let units : UnitsPass (typed_of raw).units =
      λ of at also fails. passes of at also (whole.in_program names types (whole.in_units fails)) in
      record {
        front = record {
          names = names;
          none = nothing_left items_fail (entries false end (along units_of file_scope raw.items)) none;
          units = units;
          graphs = λ of at also fails. passes of at also (whole.in_program names types (whole.in_graphs units fails));
        };
        entry = stand_from false end (along units_of file_scope raw.items)
            (nothing_right items_fail (entries false end (along units_of file_scope raw.items)) none);
      }

  -- neither Frames nor Cells fails on peeled units of the units
  pub limits_pass : TreePasses raw → (peeled_units : List UnitDef) → ArePeeled (typed_of raw).units peeled_units →
      LimitsPass (typed_of raw).structs peeled_units (typed_of raw).entry
  limits_pass passes peeled_units are of at also fails =
      let all = from_whole passes in
      let types : TypesPass true fresh (named_of raw) = λ r p a f. passes r p a (whole.in_types all.front.names f) in
      passes of at also (whole.in_program all.front.names types (whole.in_limits peeled_units all.front.units all.front.graphs are fails))
