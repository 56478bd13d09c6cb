-- The entry is a unit that the environment can drive.
use Rattle.std.proofs.Common.{◌≡◌, ℕ, suc, ◌+◌, List, [], ◌∷◌, ◌++◌, Some, refl, ap, ◌∙◌, arith}
use Rattle.std.specs.Prelude.{Bool, true, false, not, ◌&&◌, slice_get, if◌then◌else◌}
use Rattle.bl_tree.proofs.Basics.{first_empty}
use Rattle.bl_tree.specs.declared.place.Place.{Place}
use Rattle.bl_tree.specs.declared.rule.Failure.{Failure}
use Rattle.bl_tree.specs.declared.rule.Rule.TheVariants as rule
use Rattle.bl_names_tree.specs.declared.item.NamedUnit.{NamedUnit}
use Rattle.bl_types.specs.Failures.{unless}
use Rattle.bl_types.specs.Units.{drives, entries, entry_among}
use Rattle.bl_types_laws.specs.Standing.{IsDriven}
use Rattle.bl_types_laws.proofs.Forms.{unless_holds}

-- a unit that is marked stands so far behind the first of the units, which begin at the position
pub record EntryFound (units : List NamedUnit) (k position : ℕ) : Type 0 where
  pub far : ℕ
  pub unit : NamedUnit
  pub is_there : slice_get units far ≡ Some unit
  pub is_driven : drives unit ≡ true
  pub is_at : position ≡ k + far

abbrev entries_if : Bool → Place → NamedUnit → List NamedUnit → List Failure
entries_if marked end unit rest = if marked then unless (not false && drives unit) rule.Entry unit.name.place
    ++ entries true end rest else entries false end rest

entry_first : (k : ℕ) (end : Place) (unit : NamedUnit) (rest : List NamedUnit) (marked : Bool) → entries_if marked end unit rest ≡ [] →
    (entries false end rest ≡ [] → EntryFound rest (k + 1) (entry_among rest (k + 1))) →
    EntryFound (unit ∷ rest) k (if marked then k else entry_among rest (k + 1))
entry_first k end unit rest true none further = record {
  far = 0;
  unit = unit;
  is_there = refl;
  is_driven = unless_holds (drives unit) rule.Entry unit.name.place (first_empty (unless (drives unit) rule.Entry unit.name.place) (entries true end rest) none);
  is_at = omega arith;
}
entry_first k end unit rest false none further =
    let found = further none in
    record { far = suc found.far; unit = found.unit; is_there = found.is_there; is_driven = found.is_driven; is_at = omega (arith, found.is_at) }

entry_found : (units : List NamedUnit) (k : ℕ) (end : Place) → entries false end units ≡ [] → EntryFound units k (entry_among units k)
entry_found [] k end none = absurd (cc)
entry_found (unit ∷ rest) k end none = entry_first k end unit rest unit.entry none (entry_found rest (k + 1) end)

pub entry_is_driven : (end : Place) (units : List NamedUnit) → entries false end units ≡ [] → IsDriven units (entry_among units 0)
entry_is_driven end units none =
    let found = entry_found units 0 end none in
    let same : entry_among units 0 ≡ found.far = omega (arith, found.is_at) in
    record { unit = found.unit; is_there = ap (slice_get units) same ∙ found.is_there; is_driven = found.is_driven }
