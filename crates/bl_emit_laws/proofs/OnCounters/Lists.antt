-- What the lists of functions of a file have.
use Rattle.std.proofs.Common.{◌≡◌, ⊎_elim, ℕ, zero, suc, ◌+◌, Bool, true, false, List, [], ◌∷◌, Contains, Some, refl, ap, subst, ◌∙◌, arith}
use Rattle.std.proofs.lemmas.Option.{same_Some}
use Rattle.std.specs.Prelude.{slice_get}
use Rattle.bl_tree.proofs.Basics.{contains_first, contains_further, contains_none, first_or_further}
use Rattle.bl_tree.specs.declared.tree.Unit.{Unit as UnitDef}
use Rattle.bl_emit_spec_laws.specs.Tables.Tables.{each_from, kept_where}

-- ---- what is kept

pub kept_at : {X : Type 0} (tests : List Bool) (xs : List X) (k : ℕ) (x : X) → slice_get tests k ≡ Some true → slice_get xs k ≡ Some x →
    Contains (kept_where tests xs) x
kept_at tests [] k x test there = absurd (none k there)
  where
    none : (k : ℕ) → slice_get [] k ≡ Some x → ⊥
    none zero there = cc
    none (suc k) there = cc
kept_at [] (y ∷ xs) k x test there = absurd (none k test)
  where
    none : (k : ℕ) → slice_get [] k ≡ Some true → ⊥
    none zero there = cc
    none (suc k) there = cc
kept_at (true ∷ tests) (y ∷ xs) zero x test there = subst (Contains (y ∷ kept_where tests xs)) (same_Some y x there) (contains_first y (kept_where tests xs))
kept_at (false ∷ tests) (y ∷ xs) zero x test there = absurd (let both : false ≡ true = same_Some false true test in cc)
kept_at (true ∷ tests) (y ∷ xs) (suc k) x test there = contains_further y (kept_where tests xs) x (kept_at tests xs k x test there)
kept_at (false ∷ tests) (y ∷ xs) (suc k) x test there = kept_at tests xs k x test there

pub kept_has : {X : Type 0} (tests : List Bool) (xs : List X) (x : X) → Contains (kept_where tests xs) x → Contains xs x
kept_has [] xs x at = absurd (contains_none x at)
kept_has (test ∷ tests) [] x at = absurd (contains_none x at)
kept_has (true ∷ tests) (y ∷ xs) x at =
    ⊎_elim (λ is. subst (λ x. Contains (y ∷ xs) x) is (contains_first y xs)) (λ later. contains_further y xs x (kept_has tests xs x later))
    (first_or_further y (kept_where tests xs) x at)
kept_has (false ∷ tests) (y ∷ xs) x at = contains_further y xs x (kept_has tests xs x at)

-- ---- something of each unit

pub each_at : {X : Type 0} (of : ℕ → UnitDef → X) (n : ℕ) (units : List UnitDef) (k : ℕ) (unit : UnitDef) → slice_get units k ≡ Some unit →
    slice_get (each_from of n units) k ≡ Some (of (n + k) unit)
each_at of n [] zero unit there = absurd (cc)
each_at of n [] (suc k) unit there = absurd (cc)
each_at of n (first ∷ rest) zero unit there =
    let same : n ≡ n + 0 = omega arith in
    ap (λ (unit : UnitDef). Some (of n unit)) (same_Some first unit there) ∙ ap (λ n. Some (of n unit)) same
each_at of n (first ∷ rest) (suc k) unit there =
    let same : suc n + k ≡ n + suc k = omega arith in each_at of (suc n) rest k unit there ∙ ap (λ n. Some (of n unit)) same

-- the unit at a position of which it is
pub record OfUnit {X : Type 0} (of : ℕ → UnitDef → X) (n : ℕ) (units : List UnitDef) (x : X) : Type 0 where
  pub position : ℕ
  pub unit : UnitDef
  pub is_there : slice_get units position ≡ Some unit
  pub is : of (n + position) unit ≡ x

pub each_has : {X : Type 0} (of : ℕ → UnitDef → X) (n : ℕ) (units : List UnitDef) (x : X) → Contains (each_from of n units) x →
    OfUnit of n units x
each_has of n [] x at = absurd (contains_none x at)
each_has of n (unit ∷ rest) x at =
    ⊎_elim (λ is. first is) (λ later. behind (each_has of (suc n) rest x later)) (first_or_further (of n unit) (each_from of (suc n) rest) x at)
  where
    first : of n unit ≡ x → OfUnit of n (unit ∷ rest) x
    first is =
        let same : n + 0 ≡ n = omega arith in
        record { position = 0; unit = unit; is_there = refl; is = ap (λ n. of n unit) same ∙ is }

    behind : OfUnit of (suc n) rest x → OfUnit of n (unit ∷ rest) x
    behind found =
        let same : n + suc found.position ≡ suc n + found.position = omega arith in record {
          position = suc found.position;
          unit = found.unit;
          is_there = found.is_there;
          is = ap (λ n. of n found.unit) same ∙ found.is;
        }
