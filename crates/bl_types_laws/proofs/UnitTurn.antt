-- What is made of a unit, and of the items behind it.
use Rattle.std.proofs.Common.{◌≡◌, ℕ, suc, zero, true, List, [], ◌∷◌, ◌++◌, length, map, Some, refl, sym, ap, subst, ◌∙◌, append-nil, append_assoc}
use Rattle.std.specs.Prelude.{slice_get}
use Rattle.std.specs.List.{list_all}
use Rattle.std.proofs.lemmas.Option.{same_Some}
use Rattle.std.proofs.lemmas.List.{map-append}
use Rattle.std.proofs.lemmas.Bool.{and_from}
use Rattle.bl_tree.proofs.Basics.{and_first, and_second, first_empty, second_empty}
use Rattle.bl_tree.specs.declared.tree.StructDef.{StructDef}
use Rattle.bl_tree.specs.declared.tree.Unit.{Unit as UnitDef}
use Rattle.bl_tree.specs.declared.tree.UnitKind.{UnitKind}
use Rattle.bl_tree.specs.Depths.{is_shallow}
use Rattle.bl_tree.specs.Program.{is_entry, structs_stand_from, unit_stands, units_stand_after}
use Rattle.bl_names_tree.specs.declared.item.Item.TheVariants as kind
use Rattle.bl_names_tree.specs.declared.item.NamedConstant.{NamedConstant}
use Rattle.bl_names_tree.specs.declared.item.NamedUnit.{NamedUnit}
use Rattle.bl_names_tree.specs.declared.named.Named.{Named}
use Rattle.bl_names_tree.specs.Placed.{DeclaredBefore, unit_step}
use Rattle.bl_names_scopes.specs.Marks.{marks_of, unit_marks}
use Rattle.bl_names_scopes.specs.Scopes.{Scopes, after}
use Rattle.bl_names_laws.specs.WellFormed.{unit_stands as unit_keeps}
use Rattle.bl_parse_tree.specs.declared.item.RawItem.{RawItem}
use Rattle.bl_parse_tree.specs.declared.item.RawItem.TheVariants as item
use Rattle.bl_parse_tree.specs.declared.item.RawUnit.{RawUnit}
use Rattle.bl_names.specs.Named.{along, constants_in_unit, constants_of, named_unit, structs_of, units_of}
use Rattle.bl_names.specs.Order.{order_of}
use Rattle.bl_names.proofs.FitLemmas.{fits_first, fits_second}
use Rattle.bl_names.proofs.PlacedExpr.{earlier}
use Rattle.bl_names.proofs.PlacedItem.{UnitHolds, unit_holds}
use Rattle.bl_types.specs.declared.environment.Environment.{Environment}
use Rattle.bl_types.specs.Programs.{after_item, after_items}
use Rattle.bl_types.specs.Units.{after_head, after_unit, drives}
use Rattle.bl_types_laws.specs.Standing.{UnitPassed, are_shallow, unit_named}
use Rattle.bl_types_laws.specs.Within.{known_in}
use Rattle.bl_types_laws.proofs.Units.{unit_passes}
use Rattle.bl_types_laws.proofs.Premises.{Shapes, Suits}
use Rattle.bl_types_laws.proofs.Ends.{ends_first, ends_next, ends_on, ends_take}
use Rattle.bl_types_laws.proofs.Onward.{unit_onward}
use Rattle.bl_types_laws.proofs.Places.{starts_stay}
use Rattle.bl_types_laws.proofs.Starts.{picked_append}
use Rattle.bl_types_laws.proofs.Standing.{Passing, made_of, passing, unit_made, unit_shallow, units_made}
use Rattle.bl_types_laws.proofs.Reached.{At, Induction, Made, first_taken, unit_next}

abbrev kind_made : UnitDef → UnitKind
kind_made unit = unit.kind

abbrev kind_named : NamedUnit → UnitKind
kind_named unit = unit.kind

same_kinds : (units before_units : List UnitDef) (before : List NamedUnit) (made : UnitDef) (unit : NamedUnit) → units ≡ before_units ++ made ∷ [] →
    map kind_made before_units ≡ map kind_named before → made.kind ≡ unit.kind →
    map kind_made units ≡ map kind_named (before ++ unit ∷ [])
same_kinds units before_units before made unit is same kind =
    ap (map kind_made) is ∙ map-append kind_made before_units (made ∷ []) ∙ (λ i. same i ++ kind i ∷ [])
    ∙ sym (map-append kind_named before (unit ∷ []))

module _ (named : Named) (suits : Suits named) (shapes : Shapes) where
  module _ (def : RawUnit) (items : List RawItem) (scopes : Scopes) (env : Environment) (at : At named scopes (item.Unit def ∷ items) env) where
    abbrev new_unit : NamedUnit
    new_unit = named_unit scopes def

    abbrev behind_unit : Scopes
    behind_unit = after scopes (unit_marks def)

    abbrev inside : List NamedConstant
    inside = constants_in_unit scopes def

    unit_chosen : after_item named kind.Unit env ≡ after_unit named.constants new_unit env
    unit_chosen = unit_next named scopes (item.Unit def ∷ items) env at new_unit refl

    holds : UnitHolds (unit_step named.constants new_unit (earlier scopes)) scopes behind_unit inside
    holds =
        unit_holds scopes def named.constants at.below at.none (fits_first scopes (unit_marks def) (marks_of items) at.fits)
        (ends_first named.constants scopes.counts.constants inside (along constants_of behind_unit items) at.constants)

    step : unit_step named.constants new_unit (known_in env) ≡ Some (earlier behind_unit)
    step = ap (λ (e : DeclaredBefore). unit_step named.constants new_unit e) at.counts ∙ holds.steps

    is_named : unit_named named.constants env.units new_unit ≡ true
    is_named =
        suits.units scopes.counts.units new_unit (ends_next named.units scopes.counts.units (new_unit ∷ along units_of behind_unit items) at.units) env.units
        (at.kinds ∙ ap (map (λ (unit : NamedUnit). unit.kind))
        (sym (ends_take named.units scopes.counts.units (new_unit ∷ along units_of behind_unit items)
        at.units)))
        (earlier scopes) (earlier behind_unit) refl holds.steps

    -- where these structs are known after the whole program
    passed : (structs later : List StructDef) → structs ≡ env.structs ++ later → (after_unit named.constants new_unit env).failures ≡ [] →
        UnitPassed structs new_unit env (earlier behind_unit) (after_unit named.constants new_unit env).env
    passed structs later front none = unit_passes named.constants new_unit env structs later front at.between is_named (earlier behind_unit) step none

    passed_here : (after_unit named.constants new_unit env).failures ≡ [] →
        UnitPassed env.structs new_unit env (earlier behind_unit) (after_unit named.constants new_unit env).env
    passed_here = passed env.structs [] (sym (append-nil env.structs))

    units_are : (after_unit named.constants new_unit env).failures ≡ [] →
        (after_unit named.constants new_unit env).env.units ≡ env.units ++ made_of named.constants new_unit env ∷ []
    units_are none = units_made env.structs named.constants new_unit env (earlier behind_unit) (passed_here none)

    at_unit : (after_unit named.constants new_unit env).failures ≡ [] → At named behind_unit items (after_unit named.constants new_unit env).env
    at_unit none =
        let on = unit_onward named.constants scopes behind_unit new_unit inside holds in
        let here = passed_here none in
        record {
          below = on.below;
          none = on.none;
          fits = fits_second scopes (unit_marks def) (marks_of items) at.fits;
          structs = ends_on named.structs scopes.counts.structs behind_unit.counts.structs [] (along structs_of behind_unit items) on.more_structs at.structs;
          constants = ends_on named.constants scopes.counts.constants behind_unit.counts.constants inside (along constants_of behind_unit items)
              on.more_constants at.constants;
          units = ends_on named.units scopes.counts.units behind_unit.counts.units (new_unit ∷ []) (along units_of behind_unit items) on.more_units at.units;
          counts = here.counts_are;
          between = here.between;
          kinds = same_kinds (after_unit named.constants new_unit env).env.units env.units at.units.before (made_of named.constants new_unit env) new_unit
              (units_are none) at.kinds refl;
        }

    unit_driven : (structs : List StructDef) (more : List UnitDef) → Passing structs new_unit env.units (made_of named.constants new_unit env) →
        ((k : ℕ) (unit : NamedUnit) → slice_get (along units_of behind_unit items) k ≡ Some unit → drives unit ≡ true →
        is_entry (slice_get more k) ≡ true) →
        (k : ℕ) (unit : NamedUnit) → slice_get (new_unit ∷ along units_of behind_unit items) k ≡ Some unit → drives unit ≡ true →
        is_entry (slice_get (made_of named.constants new_unit env ∷ more) k) ≡ true
    unit_driven structs more passes rest zero unit is driven = passes.entry (ap drives (same_Some new_unit unit is) ∙ driven)
    unit_driven structs more passes rest (suc k) unit is driven = rest k unit is driven

    unit_case : (final : Environment) → unit_keeps new_unit ≡ true → (after_unit named.constants new_unit env).failures ≡ [] →
        Made behind_unit items (after_unit named.constants new_unit env).env final →
        Made scopes (item.Unit def ∷ items) env final
    unit_case final keeps none rest =
        let made = made_of named.constants new_unit env in
        let here = passed_here none in
        let front : final.structs ≡ env.structs ++ rest.later = rest.structs ∙ ap (λ structs. structs ++ rest.later) here.same_structs in
        let passes = passing final.structs named.constants new_unit env (earlier behind_unit) (passed final.structs rest.later front none) in
        record {
          later = rest.later;
          structs = front;
          structs_stand = subst (λ structs. structs_stand_from (length structs) rest.later ≡ true) here.same_structs rest.structs_stand;
          struct_names = rest.struct_names;
          more = made ∷ rest.more;
          units = rest.units ∙ ap (λ units. units ++ rest.more) (units_are none) ∙ append_assoc env.units (made ∷ []) rest.more;
          units_stand = and_from (unit_stands final.structs env.units made) (units_stand_after final.structs (env.units ++ made ∷ []) rest.more)
              (unit_made shapes final.structs named.constants new_unit env keeps passes)
              (subst (λ units. units_stand_after final.structs units rest.more ≡ true) (units_are none) rest.units_stand);
          shallow = and_from (is_shallow 100 made.body) (are_shallow rest.more) (unit_shallow shapes named.constants new_unit env keeps) rest.shallow;
          unit_names = ap (λ names. def.name.text ∷ names) rest.unit_names;
          driven = unit_driven final.structs rest.more passes rest.driven;
          starts = picked_append (starts_stay named.constants new_unit.vars new_unit.body (after_head new_unit env).env) rest.starts;
        }

  pub unit_turn : (def : RawUnit) (items : List RawItem) → Induction named items → Induction named (item.Unit def ∷ items)
  unit_turn def items rec scopes env at keep_structs keep_units =
      let u = named_unit scopes def in
      let new = after scopes (unit_marks def) in
      let taken = after_unit named.constants u env in
      first_taken named (item.Unit def) items scopes env taken (unit_chosen def items scopes env at)
      (λ none.
      let first = first_empty taken.failures (after_items named (order_of items) taken.env).failures none in
      unit_case def items scopes env at (after_items named (order_of items) taken.env).env
      (and_first (unit_keeps u) (list_all unit_keeps (along units_of new items)) keep_units) first
      (rec new taken.env (at_unit def items scopes env at first) keep_structs
      (and_second (unit_keeps u) (list_all unit_keeps (along units_of new items)) keep_units)
      (second_empty taken.failures (after_items named (order_of items) taken.env).failures none)))
