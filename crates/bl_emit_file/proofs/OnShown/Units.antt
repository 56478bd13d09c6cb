-- The units that are shown: those before the entry as they are, and the entry with its inputs lent.
use Rattle.std.proofs.Common.{◌≡◌, ℕ, zero, suc, ◌<◌, ◌≤◌, arith, List, [], ◌∷◌, Contains, take, length}
use Rattle.std.proofs.Common.{Some, refl, ap, subst, ⊎_elim}
use Rattle.std.proofs.lemmas.Option.{same_Some}
use Rattle.std.specs.Prelude.{slice_get}
use Rattle.bl_tree.proofs.Basics.{contains_first, contains_further, contains_none, first_or_further}
use Rattle.bl_tree.specs.declared.tree.Unit.{Unit as UnitDef}
use Rattle.bl_emit_spec.specs.Lent.{lent_unit, shown_units}

-- Shown units entry shown: these units are shown, where the entry is at this position
pub data Shown : List UnitDef → ℕ → List UnitDef → Type 0 where
  entry : {unit : UnitDef} {rest : List UnitDef} → Shown (unit ∷ rest) zero (lent_unit unit ∷ [])
  before : {unit : UnitDef} {rest shown : List UnitDef} {n : ℕ} → Shown rest n shown → Shown (unit ∷ rest) (suc n) (unit ∷ shown)

pub are_shown : (units : List UnitDef) (n : ℕ) (unit : UnitDef) → slice_get units n ≡ Some unit → Shown units n (shown_units units n)
are_shown [] n unit there = absurd (cc)
are_shown (first ∷ units) zero unit there = Shown.entry
are_shown (first ∷ units) (suc n) unit there = Shown.before (are_shown units n unit there)

-- a unit and how it is shown
pub data ShownAs : UnitDef → UnitDef → Type 0 where
  as_it_is : {unit : UnitDef} → ShownAs unit unit
  lent : {unit : UnitDef} → ShownAs unit (lent_unit unit)

-- a shown unit with the unit that it shows
pub record Shows (units : List UnitDef) (k : ℕ) (shown : UnitDef) : Type 0 where
  pub unit : UnitDef
  pub is_there : slice_get units k ≡ Some unit
  pub is : ShownAs unit shown

pub shown_at : {units shown : List UnitDef} {n : ℕ} → Shown units n shown → (k : ℕ) (one : UnitDef) → slice_get shown k ≡ Some one → Shows units k one
shown_at (Shown.entry {unit}) zero one there =
    record { unit = unit; is_there = refl; is = subst (ShownAs unit) (same_Some (lent_unit unit) one there) ShownAs.lent }
shown_at (Shown.entry {unit}) (suc k) one there = absurd (cc)
shown_at (Shown.before {unit} more) zero one there =
    record { unit = unit; is_there = refl; is = subst (ShownAs unit) (same_Some unit one there) ShownAs.as_it_is }
shown_at (Shown.before more) (suc k) one there =
    let found = shown_at more k one there in record { unit = found.unit; is_there = found.is_there; is = found.is }

-- the units up to the entry are shown
pub shown_there : {units shown : List UnitDef} {n : ℕ} → Shown units n shown → (k : ℕ) (unit : UnitDef) → k ≤ n → slice_get units k ≡ Some unit →
    (one : UnitDef) × (slice_get shown k ≡ Some one) × ShownAs unit one
shown_there (Shown.entry {unit = first}) zero unit few there = (lent_unit first, refl, subst (λ u. ShownAs u (lent_unit first)) (same_Some first unit there) ShownAs.lent)
shown_there (Shown.entry) (suc k) unit few there = absurd (omega (arith, few))
shown_there (Shown.before {unit = first} more) zero unit few there = (first, refl, subst (λ u. ShownAs u first) (same_Some first unit there) ShownAs.as_it_is)
shown_there (Shown.before more) (suc k) unit few there = shown_there more k unit (omega (arith, few)) there

-- those before it as they are
pub shown_before : {units shown : List UnitDef} {n : ℕ} → Shown units n shown → (k : ℕ) → k < n → slice_get shown k ≡ slice_get units k
shown_before (Shown.entry) k few = absurd (omega (arith, few))
shown_before (Shown.before more) zero few = refl
shown_before (Shown.before more) (suc k) few = shown_before more k (omega (arith, few))

pub shown_front : {units shown : List UnitDef} {n : ℕ} → Shown units n shown → (k : ℕ) → k ≤ n → take k shown ≡ take k units
shown_front (Shown.entry) zero few = refl
shown_front (Shown.entry) (suc k) few = absurd (omega (arith, few))
shown_front (Shown.before more) zero few = refl
shown_front (Shown.before {unit = first} more) (suc k) few = ap (λ rest. first ∷ rest) (shown_front more k (omega (arith, few)))

-- the entry with its inputs lent
pub shown_entry : {units shown : List UnitDef} {n : ℕ} → Shown units n shown → (unit : UnitDef) → slice_get units n ≡ Some unit →
    slice_get shown n ≡ Some (lent_unit unit)
shown_entry (Shown.entry {unit = first}) unit there = ap (λ (u : UnitDef). Some (lent_unit u)) (same_Some first unit there)
shown_entry (Shown.before more) unit there = shown_entry more unit there

pub shown_many : {units shown : List UnitDef} {n : ℕ} → Shown units n shown → length shown ≡ suc n
shown_many (Shown.entry) = refl
shown_many (Shown.before more) = ap suc (shown_many more)

-- a shown unit shows one of the units
pub record Among (units : List UnitDef) (shown : UnitDef) : Type 0 where
  pub unit : UnitDef
  pub is_there : Contains units unit
  pub is : ShownAs unit shown

pub shown_among : {units shown : List UnitDef} {n : ℕ} → Shown units n shown → (one : UnitDef) → Contains shown one → Among units one
shown_among (Shown.entry {unit = first} {rest}) one has =
    ⊎_elim (λ same. record { unit = first; is_there = contains_first first rest; is = subst (ShownAs first) same ShownAs.lent })
    (λ none. absurd (contains_none one none)) (first_or_further (lent_unit first) [] one has)
shown_among (Shown.before {unit = first} {rest} {shown} more) one has =
    ⊎_elim (λ same. record { unit = first; is_there = contains_first first rest; is = subst (ShownAs first) same ShownAs.as_it_is })
    (λ further. let found = shown_among more one further in
    record { unit = found.unit; is_there = contains_further first rest found.unit found.is_there; is = found.is }) (first_or_further first shown one has)

-- ---- what a unit and its showing have in common

pub same_kind : {unit one : UnitDef} → ShownAs unit one → one.kind ≡ unit.kind
same_kind ShownAs.as_it_is = refl
same_kind ShownAs.lent = refl

pub same_body : {unit one : UnitDef} → ShownAs unit one → one.body ≡ unit.body
same_body ShownAs.as_it_is = refl
same_body ShownAs.lent = refl

pub same_place : {unit one : UnitDef} → ShownAs unit one → one.place ≡ unit.place
same_place ShownAs.as_it_is = refl
same_place ShownAs.lent = refl

pub same_name : {unit one : UnitDef} → ShownAs unit one → one.name ≡ unit.name
same_name ShownAs.as_it_is = refl
same_name ShownAs.lent = refl
