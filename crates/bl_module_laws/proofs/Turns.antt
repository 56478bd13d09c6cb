-- Files in turn, each good behind the faces of those before it.
use Rattle.std.proofs.Common.{◌≡◌, ℕ, zero, suc, ◌+◌, List, [], ◌∷◌, ◌++◌, length, take, refl, sym, ap, subst, arith}
use Rattle.std.proofs.lemmas.List.{append-nil, append_assoc, length-append}
use Rattle.std.proofs.lemmas.Option.{same_Some}
use Rattle.std.specs.Prelude.{Some, slice_get, ⊤}
use Rattle.bl_face.specs.declared.face.Face.{Face}
use Rattle.bl_module.specs.Parts.{IsGoodBehind}
use Rattle.bl_module_laws.specs.Files.{AreGoodFiles, taken_at}

-- of so many files these are good behind the faces of those before them, one after another
abbrev pub GoodFrom : ℕ → List Face → List (List ℕ) → List Face → Type 0
GoodFrom count before [] [] = ⊤
GoodFrom count before [] (face ∷ faces) = ⊥
GoodFrom count before (text ∷ texts) [] = ⊥
GoodFrom count before (text ∷ texts) (face ∷ faces) =
    IsGoodBehind before (taken_at count (length before)) text face × GoodFrom count (before ++ face ∷ []) texts faces

-- each is good behind those before it, by positions
abbrev GoodAt : ℕ → List Face → List (List ℕ) → List Face → Type 0
GoodAt count before texts faces =
    (k : ℕ) (text : List ℕ) (face : Face) → slice_get texts k ≡ Some text → slice_get faces k ≡ Some face →
    IsGoodBehind (before ++ take k faces) (taken_at count (length before + k)) text face

next_count : (before : List Face) (face : Face) (k : ℕ) → length before + suc k ≡ length (before ++ face ∷ []) + k
next_count before face k = let size = length-append before (face ∷ []) in omega (arith, size)

from_positions : (count : ℕ) (before : List Face) (texts : List (List ℕ)) (faces : List Face) → length faces ≡ length texts →
    GoodAt count before texts faces → GoodFrom count before texts faces
from_positions count before [] [] same each = tt
from_positions count before [] (face ∷ faces) same each = absurd (omega (arith, same))
from_positions count before (text ∷ texts) [] same each = absurd (omega (arith, same))
from_positions count before (text ∷ texts) (face ∷ faces) same each =
    let none : length before + 0 ≡ length before = omega arith in
    let fewer : length faces ≡ length texts = omega (arith, same) in (
      subst (λ n. IsGoodBehind before (taken_at count n) text face) none
          (subst (λ them. IsGoodBehind them (taken_at count (length before + 0)) text face) (append-nil before) (each 0 text face refl refl)),
      from_positions count (before ++ face ∷ []) texts faces fewer
          (λ k other its there too.
          subst (λ n. IsGoodBehind ((before ++ face ∷ []) ++ take k faces) (taken_at count n) other its) (next_count before face k)
          (subst (λ them. IsGoodBehind them (taken_at count (length before + suc k)) other its) (sym (append_assoc before (face ∷ []) (take k faces)))
          (each (suc k) other its there too))),
    )

to_positions : (count : ℕ) (before : List Face) (texts : List (List ℕ)) (faces : List Face) → GoodFrom count before texts faces →
    GoodAt count before texts faces
to_positions count before [] faces good k text face there too = absurd (cc)
to_positions count before (one ∷ texts) [] good k text face there too = absurd good
to_positions count before (one ∷ texts) (its ∷ faces) good zero text face there too =
    let none : length before ≡ length before + 0 = omega arith in
    subst (λ n. IsGoodBehind (before ++ []) (taken_at count n) text face) none
    (subst (λ them. IsGoodBehind them (taken_at count (length before)) text face) (sym (append-nil before))
    (subst (λ it. IsGoodBehind before (taken_at count (length before)) it face) (same_Some one text there)
    (subst (λ it. IsGoodBehind before (taken_at count (length before)) one it) (same_Some its face too) good.0)))
to_positions count before (one ∷ texts) (its ∷ faces) good (suc k) text face there too =
    subst (λ n. IsGoodBehind (before ++ (its ∷ take k faces)) (taken_at count n) text face) (sym (next_count before its k))
    (subst (λ them. IsGoodBehind them (taken_at count (length (before ++ its ∷ []) + k)) text face) (append_assoc before (its ∷ []) (take k faces))
    (to_positions count (before ++ its ∷ []) texts faces good.1 k text face there too))

as_many : (count : ℕ) (before : List Face) (texts : List (List ℕ)) (faces : List Face) → GoodFrom count before texts faces → length faces ≡ length texts
as_many count before [] [] good = refl
as_many count before [] (face ∷ faces) good = absurd good
as_many count before (text ∷ texts) [] good = absurd good
as_many count before (text ∷ texts) (face ∷ faces) good = ap suc (as_many count (before ++ face ∷ []) texts faces good.1)

pub in_turn_from : (count : ℕ) (texts : List (List ℕ)) (faces : List Face) → AreGoodFiles count texts faces → GoodFrom count [] texts faces
in_turn_from count texts faces good =
    from_positions count [] texts faces good.counted
    (λ k text face there too.
    let same : k ≡ 0 + k = omega arith in
    subst (λ n. IsGoodBehind (take k faces) (taken_at count n) text face) same (good.each k text face there too))

pub in_turn_to : (count : ℕ) (texts : List (List ℕ)) (faces : List Face) → GoodFrom count [] texts faces → AreGoodFiles count texts faces
in_turn_to count texts faces good = record {
  counted = as_many count [] texts faces good;
  each = λ k text face there too.
      let same : 0 + k ≡ k = omega arith in
      subst (λ n. IsGoodBehind (take k faces) (taken_at count n) text face) same (to_positions count [] texts faces good k text face there too);
}
