-- Units and programs with peeled activities.
use Rattle.std.proofs.Common.{◌≡◌, ℕ, Bool, true, ◌&&◌, List, [], ◌∷◌, ◌++◌, map, length, Option, Some, None, refl, ap, sym, ◌∙◌}
use Rattle.std.specs.Prelude.{option_map, slice_get}
use Rattle.std.specs.List.{list_all}
use Rattle.std.proofs.lemmas.List.{map-append}
use Rattle.std.proofs.lemmas.Option.{slice_get-map}
use Rattle.bl_tree.proofs.Basics.{and_first, and_second}
use Rattle.bl_tree.specs.declared.tree.Stmt.{Stmt}
use Rattle.bl_tree.specs.declared.tree.StructDef.{StructDef}
use Rattle.bl_tree.specs.declared.tree.Unit.{Unit as UnitDef}
use Rattle.bl_tree.specs.Apart.{is_apart}
use Rattle.bl_tree.specs.Depths.{is_shallow}
use Rattle.bl_tree.specs.Program.{all_names, is_entry, names_of, parameters_of, roles_stand, unit_stands, units_stand_after}
use Rattle.bl_tree.specs.Returns.{unit_returns}
use Rattle.bl_tree.specs.Types.{type_stands}
use Rattle.bl_tree.specs.Typing.{fits, site_of}
use Rattle.bl_tree.specs.Words.{are_distinct, is_name}
use Rattle.bl_peel.specs.Peeled.{peeled}
use Rattle.bl_peel.specs.Units.{UnitPeels, UnitsPeel, is_peeled, kept, more_units, no_units}
use Rattle.bl_peel_laws_typing.specs.Typing.{PeeledKeepsTyping, PeeledUnitsStand, bodies_are_shallow}
use Rattle.bl_peel_laws_typing.proofs.Callees.{all_bare, bare, bare_one, fits_beside}
use Rattle.bl_peel_laws_typing.proofs.Fitting.{peeled_fits}
use Rattle.bl_peel_laws_typing.proofs.Flags.{beside_each, under}
use Rattle.bl_peel_laws_typing.proofs.Nesting.{peeled_is_shallow}
use Rattle.bl_peel_laws_typing.proofs.Parting.{peeled_is_apart}
use Rattle.bl_peel_laws_typing.proofs.Returning.{peeled_returns}

-- a unit stands beside units that differ from the earlier ones in bodies alone
-- what a unit is apart from its body: roles and names, and types of variables
abbrev headed : UnitDef → Bool
headed unit = roles_stand unit && (list_all is_name (names_of unit.vars) && are_distinct (names_of (parameters_of unit)))

abbrev vars_stand : List StructDef → UnitDef → Bool
vars_stand structs unit = list_all (λ var. type_stands (length structs) var.ty) unit.vars

-- what is asked of a body besides that its statements fit
abbrev shaped : UnitDef → Bool
shaped unit = unit_returns unit && (is_shallow 200 unit.body && list_all is_apart unit.body)

-- another body in place of that of a unit, or other units before it
stands_still : (structs : List StructDef) (earlier others : List UnitDef) (unit : UnitDef) (body : List Stmt) →
    (list_all (fits (site_of structs earlier unit)) unit.body ≡ true → list_all (fits (site_of structs others unit)) body ≡ true) →
    (shaped unit ≡ true → shaped (record unit { body = body }) ≡ true) → unit_stands structs earlier unit ≡ true →
    unit_stands structs others (record unit { body = body }) ≡ true
stands_still structs earlier others unit body fit shape =
    under (headed unit) (vars_stand structs unit && (list_all (fits (site_of structs earlier unit)) unit.body && shaped unit))
    (vars_stand structs unit && (list_all (fits (site_of structs others unit)) body && shaped (record unit { body = body })))
    (under (vars_stand structs unit) (list_all (fits (site_of structs earlier unit)) unit.body && shaped unit)
    (list_all (fits (site_of structs others unit)) body && shaped (record unit { body = body }))
    (beside_each (list_all (fits (site_of structs earlier unit)) unit.body) (shaped unit) (list_all (fits (site_of structs others unit)) body)
    (shaped (record unit { body = body })) fit shape))

-- a unit stands beside units that differ from the earlier ones in bodies alone
stands_beside : (structs : List StructDef) (earlier others : List UnitDef) (unit : UnitDef) → map bare earlier ≡ map bare others →
    unit_stands structs earlier unit ≡ true → unit_stands structs others unit ≡ true
stands_beside structs earlier others unit same =
    stands_still structs earlier others unit unit.body
    (λ holds. sym (ap (λ fit. list_all fit unit.body) (fits_beside structs earlier others unit same)) ∙ holds) (λ holds. holds)

-- an activity that stands does so with its body peeled
stands_peeled : (structs : List StructDef) (earlier : List UnitDef) {unit peeled_unit : UnitDef} → UnitPeels unit peeled_unit →
    is_shallow 100 unit.body ≡ true → unit_stands structs earlier unit ≡ true → unit_stands structs earlier peeled_unit ≡ true
stands_peeled structs earlier kept shallow stands = stands
stands_peeled structs earlier (is_peeled {unit} activity) shallow stands =
    stands_still structs earlier earlier unit (peeled unit.body) (λ holds. peeled_fits (site_of structs earlier unit) unit.body ∙ holds)
    (beside_each (unit_returns unit) (is_shallow 200 unit.body && list_all is_apart unit.body) (unit_returns (record unit { body = peeled unit.body }))
    (is_shallow 200 (peeled unit.body) && list_all is_apart (peeled unit.body))
    (λ holds. peeled_returns unit activity ∙ holds)
    (beside_each (is_shallow 200 unit.body) (list_all is_apart unit.body) (is_shallow 200 (peeled unit.body)) (list_all is_apart (peeled unit.body))
    (λ holds. peeled_is_shallow 100 unit.body shallow) (peeled_is_apart unit.body)))
    stands

bare_behind : (earlier others : List UnitDef) {unit peeled_unit : UnitDef} → UnitPeels unit peeled_unit → map bare earlier ≡ map bare others →
    map bare (earlier ++ unit ∷ []) ≡ map bare (others ++ peeled_unit ∷ [])
bare_behind earlier others {unit} {peeled_unit} one same =
    map-append bare earlier (unit ∷ []) ∙ (λ i. same i ++ bare_one one i ∷ []) ∙ sym (map-append bare others (peeled_unit ∷ []))

stand_after : (structs : List StructDef) {units peeled_units : List UnitDef} → UnitsPeel units peeled_units → (earlier others : List UnitDef) →
    map bare earlier ≡ map bare others → bodies_are_shallow 100 units ≡ true → units_stand_after structs earlier units ≡ true →
    units_stand_after structs others peeled_units ≡ true
stand_after structs no_units earlier others same shallow stand = refl
stand_after structs (more_units {unit} {peeled_unit} {units} {peeled_units} one more) earlier others same shallow stand =
    beside_each (unit_stands structs earlier unit) (units_stand_after structs (earlier ++ unit ∷ []) units) (unit_stands structs others peeled_unit)
    (units_stand_after structs (others ++ peeled_unit ∷ []) peeled_units)
    (λ holds. stands_peeled structs others one (and_first (is_shallow 100 unit.body) (bodies_are_shallow 100 units) shallow)
    (stands_beside structs earlier others unit same holds))
    (stand_after structs more (earlier ++ unit ∷ []) (others ++ peeled_unit ∷ []) (bare_behind earlier others one same)
    (and_second (is_shallow 100 unit.body) (bodies_are_shallow 100 units) shallow)) stand

pub units_stand_peeled : PeeledUnitsStand
units_stand_peeled structs units peeled_units peels = stand_after structs peels [] [] refl

-- ---- programs

name_same : {unit peeled_unit : UnitDef} → UnitPeels unit peeled_unit → unit.name ≡ peeled_unit.name
name_same kept = refl
name_same (is_peeled activity) = refl

names_same : {units peeled_units : List UnitDef} → UnitsPeel units peeled_units →
    map (λ (unit : UnitDef). unit.name) units ≡ map (λ (unit : UnitDef). unit.name) peeled_units
names_same no_units = refl
names_same (more_units one more) = λ i. name_same one i ∷ names_same more i

all_names_same : (structs : List StructDef) (units peeled_units : List UnitDef) → UnitsPeel units peeled_units →
    all_names structs units ≡ all_names structs peeled_units
all_names_same structs units peeled_units peels = ap (λ names. map (λ (def : StructDef). def.name) structs ++ names) (names_same peels)

-- an entry is one whatever its body
entry_bare : (unit : Option UnitDef) → is_entry (option_map bare unit) ≡ is_entry unit
entry_bare (Some unit) = refl
entry_bare None = refl

entry_same : (units peeled_units : List UnitDef) (entry : ℕ) → UnitsPeel units peeled_units →
    is_entry (slice_get units entry) ≡ is_entry (slice_get peeled_units entry)
entry_same units peeled_units entry peels =
    sym (entry_bare (slice_get units entry))
    ∙ ap is_entry (sym (slice_get-map bare units entry) ∙ ap (λ bares. slice_get bares entry) (all_bare peels) ∙ slice_get-map bare peeled_units entry)
    ∙ entry_bare (slice_get peeled_units entry)

pub peeled_keeps_typing : PeeledKeepsTyping
peeled_keeps_typing structs units peeled_units entry typed shallow peels places runs = record {
  named = ap (list_all is_name) (sym (all_names_same structs units peeled_units peels)) ∙ typed.named;
  distinct = ap are_distinct (sym (all_names_same structs units peeled_units peels)) ∙ typed.distinct;
  structs_stand = typed.structs_stand;
  units_stand = units_stand_peeled structs units peeled_units peels shallow typed.units_stand;
  entry_stands = sym (entry_same units peeled_units entry peels) ∙ typed.entry_stands;
  places_decide = places;
  runs_decide = runs;
}
