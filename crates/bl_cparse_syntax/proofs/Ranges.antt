-- Laws of the bytes between two offsets.
use Rattle.std.proofs.Common.{◌≡◌, ℕ, suc, ◌+◌, ◌-◌, ◌≤◌, ◌<◌, List, [], ◌∷◌, ◌++◌, length, take, drop, get_or, sym, ap, ◌∙◌, arith, add-one}
use Rattle.std.specs.Prelude.{slice_range}
use Rattle.std.proofs.Math.Seq.{take-suc, get_or-drop, drop-cons}
use Rattle.std.proofs.lemmas.List.{length-drop}

module _ {X : Type 0} where
  pub drop_more : (xs : List X) (i : ℕ) (d : X) → i < length xs → drop i xs ≡ get_or xs i d ∷ drop (i + 1) xs
  drop_more xs i d lt = let on : suc i ≡ i + 1 = omega arith in drop-cons xs i d lt ∙ ap (λ n. get_or xs i d ∷ drop n xs) on

  pub range_none : (xs : List X) (a b : ℕ) → b ≤ a → slice_range xs a b ≡ []
  range_none xs a b h = let e : b - a ≡ 0 = omega arith in ap (λ n. take n (drop a xs)) e

  pub range_cons : (xs : List X) (a b : ℕ) (d : X) → a < b → b ≤ length xs → slice_range xs a b ≡ get_or xs a d ∷ slice_range xs (a + 1) b
  range_cons xs a b d p q =
      let e : b - a ≡ suc (b - (a + 1)) = omega arith in
      (λ t. take (e t) (drop-cons xs a d (omega arith) t)) ∙ ap (λ n. get_or xs a d ∷ take (b - (a + 1)) (drop n xs)) (sym (add-one a))

  pub range_snoc : (xs : List X) (a b : ℕ) (d : X) → a ≤ b → b < length xs → slice_range xs a (b + 1) ≡ slice_range xs a b ++ get_or xs b d ∷ []
  range_snoc xs a b d p q =
      let e : b + 1 - a ≡ suc (b - a) = omega arith in
      let at : a + (b - a) ≡ b = omega arith in
      ap (λ n. take n (drop a xs)) e ∙ take-suc (drop a xs) (b - a) d (omega (arith, length-drop a xs))
      ∙ ap (λ y. slice_range xs a b ++ y ∷ []) (get_or-drop a xs (b - a) d ∙ ap (λ n. get_or xs n d) at)
