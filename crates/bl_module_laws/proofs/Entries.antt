-- Rule Entry for units whose places and constants are changed, and for units behind others.
use Rattle.std.proofs.Common.{◌≡◌, ◌∙◌, Bool, true, false, not, ◌&&◌, List, [], ◌∷◌, ◌++◌, map, Option, Some, None, refl, ap, cond}
use Rattle.std.specs.Prelude.{◌||◌, if◌then◌else◌, is_none, option_map}
use Rattle.std.specs.List.{list_all, list_any}
use Rattle.std.proofs.lemmas.Bool.{and_from}
use Rattle.bl_tree.proofs.Basics.{and_first, and_second, neither_first, neither_second}
use Rattle.bl_names_laws_places.specs.Renamed.{Renaming, renamed_type, renamed_type_level, renamed_unit, renamed_var}
use Rattle.bl_names_tree.specs.declared.item.NamedUnit.{NamedUnit}
use Rattle.bl_names_tree.specs.declared.item.NamedVar.{NamedVar}
use Rattle.bl_names_tree.specs.declared.types.NamedType.{NamedType, fold_out-NamedType, out-NamedType}
use Rattle.bl_names_tree.specs.declared.types.NamedType.TheFolds.{map-NamedType}
use Rattle.bl_names_tree.specs.declared.types.NamedType.TheOpen.{NamedType-F}
use Rattle.bl_names_tree.specs.declared.types.NamedType.TheVariants as type
use Rattle.bl_tree.specs.declared.place.Place.{Place}
use Rattle.bl_tree.specs.declared.rule.Failure.{Failure}
use Rattle.bl_tree.specs.declared.rule.Rule.TheVariants as rule
use Rattle.bl_tree.specs.Typing.{is_activity}
use Rattle.bl_types.specs.Declarations.{is_parameter}
use Rattle.bl_types.specs.Failures.{unless}
use Rattle.bl_types.specs.Units.{can_be_driven, drives, entries, is_scalar, is_scalar_level}

-- ---- units that the environment can drive

level_stays : (by : Renaming) (ty : NamedType) (layer : NamedType-F NamedType) → out-NamedType ty ≡ layer →
    is_scalar_level (out-NamedType (renamed_type by ty)) ≡ is_scalar_level layer
level_stays by ty layer is =
    ap (λ renamed. is_scalar_level (out-NamedType renamed))
    (fold_out-NamedType NamedType (renamed_type_level by) ty
    ∙ ap (λ shown. renamed_type_level by (map-NamedType NamedType NamedType (renamed_type by) shown)) is)
    ∙ by_layer layer
  where
    by_layer : (layer : NamedType-F NamedType) →
        is_scalar_level (out-NamedType (renamed_type_level by (map-NamedType NamedType NamedType (renamed_type by) layer))) ≡ is_scalar_level layer
    by_layer (NamedType-F.Scalar s) = ap is_scalar_level (type.outs-Scalar s)
    by_layer (NamedType-F.Struct k) = ap is_scalar_level (type.outs-Struct k)
    by_layer (NamedType-F.Array n element) = ap is_scalar_level (type.outs-Array _ _)

scalar_stays : (by : Renaming) (ty : Option NamedType) → is_scalar (option_map (renamed_type by) ty) ≡ is_scalar ty
scalar_stays by (Some ty) = level_stays by ty (out-NamedType ty) refl
scalar_stays by None = refl

driven_stays : (by : Renaming) (var : NamedVar) → can_be_driven (renamed_var by var) ≡ can_be_driven var
driven_stays by var = ap (λ scalar. cond (is_parameter var.role) scalar true) (scalar_stays by var.ty)

all_driven_stay : (by : Renaming) (vars : List NamedVar) → list_all can_be_driven (map (renamed_var by) vars) ≡ list_all can_be_driven vars
all_driven_stay by [] = refl
all_driven_stay by (var ∷ vars) = λ i. driven_stays by var i && all_driven_stay by vars i

none_stays : (by : Renaming) (ty : Option NamedType) → is_none (option_map (renamed_type by) ty) ≡ is_none ty
none_stays by (Some ty) = refl
none_stays by None = refl

drives_stays : (by : Renaming) (unit : NamedUnit) → drives (renamed_unit by unit) ≡ drives unit
drives_stays by unit = λ i. is_activity unit.kind && (none_stays by unit.result i && all_driven_stay by unit.vars i)

-- ---- whether rule Entry passes

-- whether rule Entry passes for units, where a mark was seen before them or not
abbrev pub entries_stand : Bool → List NamedUnit → Bool
entries_stand seen [] = seen
entries_stand seen (unit ∷ rest) = if unit.entry then (not seen && drives unit) && entries_stand true rest else entries_stand seen rest

unless_true : (test : Bool) (end : Place) → unless test rule.Entry end ≡ [] → test ≡ true
unless_true true end is = refl
unless_true false end is = absurd (cc)

unless_nil : (test : Bool) (end : Place) → test ≡ true → unless test rule.Entry end ≡ []
unless_nil true end is = refl
unless_nil false end is = absurd (cc)

pub nothing_left : (xs ys : List Failure) → xs ++ ys ≡ [] → xs ≡ []
nothing_left [] ys is = refl
nothing_left (x ∷ xs) ys is = absurd (cc)

pub nothing_right : (xs ys : List Failure) → xs ++ ys ≡ [] → ys ≡ []
nothing_right [] ys is = is
nothing_right (x ∷ xs) ys is = absurd (cc)

pub both_nothing : (xs ys : List Failure) → xs ≡ [] → ys ≡ [] → xs ++ ys ≡ []
both_nothing [] ys first second = second
both_nothing (x ∷ xs) ys first second = absurd (cc)

pub stand_from : (seen : Bool) (end : Place) (units : List NamedUnit) → entries seen end units ≡ [] → entries_stand seen units ≡ true
stand_from seen end [] is = unless_true seen end is
stand_from seen end (unit ∷ rest) is =
    from_mark seen unit end rest (stand_from true end rest) (stand_from seen end rest) unit.entry is
  where
    from_mark : (seen : Bool) (unit : NamedUnit) (end : Place) (rest : List NamedUnit) →
        (entries true end rest ≡ [] → entries_stand true rest ≡ true) → (entries seen end rest ≡ [] → entries_stand seen rest ≡ true) →
        (mark : Bool) →
        (if mark then unless (not seen && drives unit) rule.Entry unit.name.place ++ entries true end rest else entries seen end rest) ≡ [] →
        (if mark then (not seen && drives unit) && entries_stand true rest else entries_stand seen rest) ≡ true
    from_mark seen unit end rest marked unmarked true none =
        and_from (not seen && drives unit) (entries_stand true rest)
        (unless_true (not seen && drives unit) unit.name.place
        (nothing_left (unless (not seen && drives unit) rule.Entry unit.name.place) (entries true end rest) none))
        (marked (nothing_right (unless (not seen && drives unit) rule.Entry unit.name.place) (entries true end rest) none))
    from_mark seen unit end rest marked unmarked false none = unmarked none

pub stand_to : (seen : Bool) (end : Place) (units : List NamedUnit) → entries_stand seen units ≡ true → entries seen end units ≡ []
stand_to seen end [] is = unless_nil seen end is
stand_to seen end (unit ∷ rest) is = to_mark seen unit end rest (stand_to true end rest) (stand_to seen end rest) unit.entry is
  where
    to_mark : (seen : Bool) (unit : NamedUnit) (end : Place) (rest : List NamedUnit) →
        (entries_stand true rest ≡ true → entries true end rest ≡ []) → (entries_stand seen rest ≡ true → entries seen end rest ≡ []) →
        (mark : Bool) →
        (if mark then (not seen && drives unit) && entries_stand true rest else entries_stand seen rest) ≡ true →
        (if mark then unless (not seen && drives unit) rule.Entry unit.name.place ++ entries true end rest else entries seen end rest) ≡ []
    to_mark seen unit end rest marked unmarked true stand =
        both_nothing (unless (not seen && drives unit) rule.Entry unit.name.place) (entries true end rest)
        (unless_nil (not seen && drives unit) unit.name.place (and_first (not seen && drives unit) (entries_stand true rest) stand))
        (marked (and_second (not seen && drives unit) (entries_stand true rest) stand))
    to_mark seen unit end rest marked unmarked false stand = unmarked stand

-- ---- changed units

pub stand_renamed : (by : Renaming) (seen : Bool) (units : List NamedUnit) → entries_stand seen (map (renamed_unit by) units) ≡ entries_stand seen units
stand_renamed by seen [] = refl
stand_renamed by seen (unit ∷ rest) =
    λ i. if unit.entry then (not seen && drives_stays by unit i) && stand_renamed by true rest i else stand_renamed by seen rest i

-- ---- units without a mark

-- whether a unit has the mark of an entry point
abbrev pub has_mark : NamedUnit → Bool
has_mark unit = unit.entry

pub stand_behind : (seen : Bool) (before units : List NamedUnit) → list_any has_mark before ≡ false →
    entries_stand seen (before ++ units) ≡ entries_stand seen units
stand_behind seen [] units none = refl
stand_behind seen (unit ∷ before) units none =
    ap
    (λ mark. if mark then (not seen && drives unit) && entries_stand true (before ++ units) else entries_stand seen (before ++ units))
    (neither_first unit.entry (list_any has_mark before) none)
    ∙ stand_behind seen before units (neither_second unit.entry (list_any has_mark before) none)

-- behind a mark there is no other
pub unmarked_behind : (units : List NamedUnit) → entries_stand true units ≡ true → list_any has_mark units ≡ false
unmarked_behind [] stand = refl
unmarked_behind (unit ∷ rest) stand = by_mark unit rest (unmarked_behind rest) unit.entry stand
  where
    by_mark : (unit : NamedUnit) (rest : List NamedUnit) → (entries_stand true rest ≡ true → list_any has_mark rest ≡ false) → (mark : Bool) →
        (if mark then false && entries_stand true rest else entries_stand true rest) ≡ true → (mark || list_any has_mark rest) ≡ false
    by_mark unit rest further true none = absurd (cc)
    by_mark unit rest further false stands = further stands

pub stand_unmarked : (units : List NamedUnit) → list_any has_mark units ≡ false → entries_stand true units ≡ true
stand_unmarked [] none = refl
stand_unmarked (unit ∷ rest) none =
    ap (λ mark. if mark then false && entries_stand true rest else entries_stand true rest)
    (neither_first unit.entry (list_any has_mark rest) none)
    ∙ stand_unmarked rest (neither_second unit.entry (list_any has_mark rest) none)

pub unmarked_both : (one two : List NamedUnit) → list_any has_mark one ≡ false → list_any has_mark two ≡ false → list_any has_mark (one ++ two) ≡ false
unmarked_both [] two first second = second
unmarked_both (unit ∷ one) two first second =
    ap (λ mark. mark || list_any has_mark (one ++ two)) (neither_first unit.entry (list_any has_mark one) first)
    ∙ unmarked_both one two (neither_second unit.entry (list_any has_mark one) first) second

pub unmarked_renamed : (by : Renaming) (units : List NamedUnit) → list_any has_mark (map (renamed_unit by) units) ≡ list_any has_mark units
unmarked_renamed by [] = refl
unmarked_renamed by (unit ∷ units) = ap (λ rest. unit.entry || rest) (unmarked_renamed by units)
