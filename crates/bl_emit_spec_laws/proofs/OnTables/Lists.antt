-- Lists by positions.
use Rattle.std.proofs.Common.{◌≡◌, ℕ, zero, suc, ◌+◌, ◌<◌, List, [], ◌∷◌, ◌++◌, drop, map, take}
use Rattle.std.proofs.Common.{Some, None, refl, ap, ◌∙◌, arith}
use Rattle.std.proofs.lemmas.Option.{same_Some}
use Rattle.std.specs.Prelude.{slice_get}
use Rattle.bl_tree.specs.declared.tree.Unit.{Unit as UnitDef}
use Rattle.bl_emit_spec_laws.specs.Tables.Tables.{each_from}

-- where a list goes on, its next element is there, and behind it the rest
pub drop_next : {A : Type 0} (xs : List A) (k : ℕ) (x : A) (rest : List A) → drop k xs ≡ x ∷ rest
    → (slice_get xs k ≡ Some x) × (drop (suc k) xs ≡ rest)
drop_next [] zero x rest is = absurd (cc)
drop_next [] (suc k) x rest is = absurd (cc)
drop_next (y ∷ xs) zero x rest is = (first is, behind is)
  where
    first : y ∷ xs ≡ x ∷ rest → Some y ≡ Some x
    first is = cc

    behind : y ∷ xs ≡ x ∷ rest → xs ≡ rest
    behind is = cc
drop_next (y ∷ xs) (suc k) x rest is = drop_next xs k x rest is

pub split_at : {A : Type 0} (xs : List A) (k : ℕ) → take k xs ++ drop k xs ≡ xs
split_at [] zero = refl
split_at [] (suc k) = refl
split_at (x ∷ xs) zero = refl
split_at (x ∷ xs) (suc k) = ap (λ rest. x ∷ rest) (split_at xs k)

pub map_take : {A B : Type 0} (f : A → B) (xs : List A) (k : ℕ) → map f (take k xs) ≡ take k (map f xs)
map_take f [] zero = refl
map_take f [] (suc k) = refl
map_take f (x ∷ xs) zero = refl
map_take f (x ∷ xs) (suc k) = ap (λ rest. f x ∷ rest) (map_take f xs k)

-- ---- something of each unit

module _ {X : Type 0} (of : ℕ → UnitDef → X) where
  pub each_got : (xs : List UnitDef) (base k : ℕ) (x : UnitDef) → slice_get xs k ≡ Some x →
      slice_get (each_from of base xs) k ≡ Some (of (base + k) x)
  each_got [] base zero x there = absurd (cc)
  each_got [] base (suc k) x there = absurd (cc)
  each_got (y ∷ xs) base zero x there =
      let same : base ≡ base + 0 = omega arith in
      λ i. Some (of (same i) (same_Some y x there i))
  each_got (y ∷ xs) base (suc k) x there =
      let same : suc base + k ≡ base + suc k = omega arith in
      each_got xs (suc base) k x there ∙ ap (λ n. Some (of n x)) same

  pub each_past : (xs : List UnitDef) (base k : ℕ) → slice_get xs k ≡ None → slice_get (each_from of base xs) k ≡ None
  each_past [] base zero past = refl
  each_past [] base (suc k) past = refl
  each_past (y ∷ xs) base zero past = absurd (cc)
  each_past (y ∷ xs) base (suc k) past = each_past xs (suc base) k past
