-- Elements of lists at positions.
use Rattle.std.proofs.Common.{◌≡◌, ℕ, suc, ◌+◌, ◌-◌, ◌<◌, ◌≤◌, List, [], ◌∷◌, ◌++◌, map, length, Some, arith, refl, ap, sym, ◌∙◌}
use Rattle.std.specs.Prelude.{option_map, slice_get}
use Rattle.std.proofs.lemmas.List.{length-map}
use Rattle.std.proofs.lemmas.Option.{same_Some, slice_get-map}
use Rattle.bl_tree.proofs.Basics.{get_behind, get_front}
use Rattle.bl_names_laws_files.specs.Laws.{StandsFrom}

-- lists with equal elements are equal
pub same_list : {A : Type 0} (xs ys : List A) → ((k : ℕ) → slice_get ys k ≡ slice_get xs k) → ys ≡ xs
same_list [] [] same = refl
same_list [] (y ∷ ys) same = absurd (let no = same 0 in cc)
same_list (x ∷ xs) [] same = absurd (let no = same 0 in cc)
same_list (x ∷ xs) (y ∷ ys) same = λ i. same_Some y x (same 0) i ∷ same_list xs ys (λ k. same (suc k)) i

one_on : (n k : ℕ) → suc n + k ≡ suc (n + k)
one_on n k = omega arith

-- an element of a part of a list
pub stands_get : {A : Type 0} (xs : List A) (at : ℕ) (part : List A) → StandsFrom xs at part → (k : ℕ) → k < length part →
    slice_get xs (at + k) ≡ slice_get part k
stands_get xs at part stands k less =
    (λ i. slice_get (stands.there i) (sym stands.is_at i + k)) ∙ get_behind stands.before (part ++ stands.rest) k
    ∙ get_front part stands.rest k less

apart : (at k upto : ℕ) → at ≤ k → k < at + upto → at + (k - at) ≡ k
apart at k upto behind less = omega arith

-- an element of the part of one list stands, changed, at the other position of the other list
pub stands_changed : {A : Type 0} (change : A → A) (xs ys part : List A) (at from : ℕ) → StandsFrom xs at part →
    StandsFrom ys from (map change part) → (k : ℕ) (x : A) → at ≤ k → k < at + length part → slice_get xs k ≡ Some x →
    slice_get ys (from + (k - at)) ≡ Some (change x)
stands_changed change xs ys part at from one two k x behind less is =
    let j : ℕ = k - at in
    let within : j < length part = omega arith in
    let here : slice_get part j ≡ Some x =
    sym (stands_get xs at part one j within) ∙ ap (slice_get xs) (apart at k (length part) behind less) ∙ is in
    stands_get ys from (map change part) two j (omega (arith, length-map part change))
    ∙ slice_get-map change part j ∙ ap (option_map change) here
