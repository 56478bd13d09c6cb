-- A table of the functions of all units before a position, whether they are needed or not.
use Rattle.std.proofs.Common.{◌≡◌, ℕ, zero, suc, ◌+◌, ◌<◌, Bool, true, false, not, ◌||◌, List, [], ◌∷◌, ◌++◌, take}
use Rattle.std.proofs.Common.{Some, None, refl, ap, ◌∙◌, subst, arith, codes}
use Rattle.std.proofs.lemmas.Option.{same_Some}
use Rattle.std.proofs.lemmas.Slice.Eq.{bytes_eq-Decides}
use Rattle.std.specs.Prelude.{Contains, bytes_eq, slice_get, unwrap_or}
use Rattle.std.proofs.lemmas.Bool.{and_from, not-true}
use Rattle.bl_tree.proofs.Basics.{and_first, and_second, contains_first, contains_further}
use Rattle.bl_tree.specs.declared.text.Text.{Text}
use Rattle.bl_tree.specs.declared.tree.StructDef.{StructDef}
use Rattle.bl_tree.specs.declared.tree.Unit.{Unit as UnitDef}
use Rattle.bl_tree.specs.Typing.{is_activity}
use Rattle.bl_tree.specs.Words.{are_distinct, is_among}
use Rattle.bl_ctext_semantics.specs.Faults.{Signature}
use Rattle.bl_ctext_semantics.specs.Tables.{Table, found, table_of}
use Rattle.bl_emit_acts.specs.Types.{unit_name}
use Rattle.bl_emit_functions_laws_wellformed.proofs.OnFiles.Chains.{taken}
use Rattle.bl_emit_functions_laws_wellformed.proofs.OnFiles.Growing.{names, one_place}
use Rattle.bl_emit_functions_laws_wellformed.proofs.OnFormed.Lookups.{found_next}
use Rattle.bl_emit_spec_laws_wellformed_bodies.proofs.OnBodies.Lists.{found-one, names_of_entries}
use Rattle.bl_emit_spec_laws_wellformed_bodies.specs.Lists.{signature_by}
use Rattle.bl_emit_spec_laws.proofs.OnTables.Known.{names_c}

-- ---- lists of names

among_units : (name : Text) (units : List UnitDef) → is_among (unit_name name) (names_c units) ≡ is_among name (names units)
among_units name [] = refl
among_units name (unit ∷ units) = ap (λ b. bytes_eq name unit.name || b) (among_units name units)

units_differ : (units : List UnitDef) → are_distinct (names units) ≡ true → are_distinct (names_c units) ≡ true
units_differ [] differ = refl
units_differ (unit ∷ units) differ =
    and_from (not (is_among (unit_name unit.name) (names_c units))) (are_distinct (names_c units))
    (ap not (among_units unit.name units) ∙ and_first (not (is_among unit.name (names units))) (are_distinct (names units)) differ)
    (units_differ units (and_second (not (is_among unit.name (names units))) (are_distinct (names units)) differ))

pub none_left : (a b c : Bool) → (b ≡ false → c ≡ false) → (a || b) ≡ false → (a || c) ≡ false
none_left false b c more none = more none
none_left true b c more none = absurd (cc)

not_among_front : (name : Text) (k : ℕ) (units : List UnitDef) → is_among name (names units) ≡ false → is_among name (names (take k units)) ≡ false
not_among_front name zero units none = refl
not_among_front name (suc k) [] none = refl
not_among_front name (suc k) (unit ∷ units) none =
    none_left (bytes_eq name unit.name) (is_among name (names units)) (is_among name (names (take k units))) (not_among_front name k units) none

front_differs : (k : ℕ) (units : List UnitDef) → are_distinct (names units) ≡ true → are_distinct (names (take k units)) ≡ true
front_differs zero units differ = refl
front_differs (suc k) [] differ = refl
front_differs (suc k) (unit ∷ units) differ =
    and_from (not (is_among unit.name (names (take k units)))) (are_distinct (names (take k units)))
    (ap not (not_among_front unit.name k units
    (not-true (is_among unit.name (names units)) (and_first (not (is_among unit.name (names units))) (are_distinct (names units)) differ))))
    (front_differs k units (and_second (not (is_among unit.name (names units))) (are_distinct (names units)) differ))

-- ---- the table

module _ (structs : List StructDef) (remember : List Bool) where
  -- the parameters and the result of the function of the unit at a position
  abbrev pub signed_at : ℕ → UnitDef → Signature
  signed_at f unit = signature_by (is_activity unit.kind) structs unit (unwrap_or (slice_get remember f) false)

  -- those of units, the first of which is at this position
  abbrev pub entries : ℕ → List UnitDef → List (Text × Signature)
  entries f [] = []
  entries f (unit ∷ rest) = (unit_name unit.name, signed_at f unit) ∷ entries (suc f) rest

  entry_names : (f : ℕ) (units : List UnitDef) → names_of_entries (entries f units) ≡ names_c units
  entry_names f [] = refl
  entry_names f (unit ∷ units) = ap (λ rest. unit_name unit.name ∷ rest) (entry_names (suc f) units)

  entry_has : (base f : ℕ) (units : List UnitDef) (unit : UnitDef) → slice_get units f ≡ Some unit →
      Contains (entries base units) (unit_name unit.name, signed_at (base + f) unit)
  entry_has base f [] unit there = absurd (cc)
  entry_has base zero (first ∷ units) unit there =
      let none : base ≡ base + 0 = omega arith in
      subst (λ n. Contains (entries base (first ∷ units)) (unit_name unit.name, signed_at n unit)) none
      (subst (λ (u : UnitDef). Contains (entries base (first ∷ units)) (unit_name u.name, signed_at base u)) (same_Some first unit there)
      (contains_first (unit_name first.name, signed_at base first) (entries (suc base) units)))
  entry_has base (suc f) (first ∷ units) unit there =
      let next : suc base + f ≡ base + suc f = omega arith in
      subst (λ n. Contains (entries base (first ∷ units)) (unit_name unit.name, signed_at n unit)) next
      (contains_further (unit_name first.name, signed_at base first) (entries (suc base) units) (unit_name unit.name, signed_at (suc base + f) unit)
      (entry_has (suc base) f units unit there))

  -- a name that no unit has
  pub entry_none : (base : ℕ) (units : List UnitDef) (name : Text) →
      ((f : ℕ) (unit : UnitDef) → slice_get units f ≡ Some unit → bytes_eq (unit_name unit.name) name ≡ false) → found name (entries base
      units) ≡ None
  entry_none base [] name other = refl
  entry_none base (unit ∷ units) name other =
      found_next name (unit_name unit.name, signed_at base unit) (entries (suc base) units) (other 0 unit refl)
      ∙ entry_none (suc base) units name (λ f u there. other (suc f) u there)

  module _ (units : List UnitDef) (differ : are_distinct (names units) ≡ true) (k : ℕ) where
    -- all units before the position
    abbrev pub full : Table Signature
    full = table_of (entries 0 (take k units))

    pub full-known : (f : ℕ) (unit : UnitDef) → slice_get (take k units) f ≡ Some unit → full (unit_name unit.name) ≡ Some (signed_at f unit)
    full-known f unit there =
        let none : 0 + f ≡ f = omega arith in
        found-one (entries 0 (take k units)) (unit_name unit.name, signed_at f unit)
        (ap are_distinct (entry_names 0 (take k units)) ∙ units_differ (take k units) (front_differs k units differ))
        (subst (λ n. Contains (entries 0 (take k units)) (unit_name unit.name, signed_at n unit)) none (entry_has 0 f (take k units) unit there))

    -- the unit at the position doesn't stand there
    pub full-new : (unit : UnitDef) → slice_get units k ≡ Some unit → full (unit_name unit.name) ≡ None
    full-new unit there = entry_none 0 (take k units) (unit_name unit.name) (λ f u found. other f u found (bytes_eq u.name unit.name) refl)
      where
        other : (f : ℕ) (u : UnitDef) → slice_get (take k units) f ≡ Some u → (b : Bool) → bytes_eq u.name unit.name ≡ b → b ≡ false
        other f u found false is = refl
        other f u found true is =
            let at = taken units k f u found in
            let less : f < k = at.0 in
            let place : f ≡ k = one_place units f k u unit differ at.1 there ((bytes_eq-Decides u.name unit.name).0 is) in
            absurd (omega (arith, less, place))

    -- nor does a function of the prelude or of the interface
    pub full-prelude : (rest : Text) → full (codes "bl_" ++ rest) ≡ None
    full-prelude rest = entry_none 0 (take k units) (codes "bl_" ++ rest) (λ f u found. refl)
