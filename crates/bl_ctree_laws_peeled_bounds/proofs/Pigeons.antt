-- Lists in which nothing stands twice.
use Rattle.std.proofs.Common.{◌≡◌, suc, ◌≤◌, List, [], ◌∷◌, length, inl, inr, refl, sym, ap, ◌∙◌, arith}
use Rattle.std.specs.Prelude.{⊤}
use Rattle.bl_ctree_laws_traces.proofs.OnBounded.Lists.{EachOf}
use Rattle.bl_tree.proofs.FirstLemmas.{In}

module _ {A : Type 0} where
  -- x is none of the list
  abbrev pub Missing : A → List A → Type 0
  Missing x [] = ⊤
  Missing x (y ∷ ys) = (y ≡ x → ⊥) × Missing x ys

  -- nothing stands twice in the list
  abbrev pub AllDiffer : List A → Type 0
  AllDiffer [] = ⊤
  AllDiffer (x ∷ xs) = Missing x xs × AllDiffer xs

  abbrev without : (x : A) (ys : List A) → In x ys → List A
  without x [] at = elim at [ ]
  without x (y ∷ ys) (inl is) = ys
  without x (y ∷ ys) (inr at) = y ∷ without x ys at

  without_long : (x : A) (ys : List A) (at : In x ys) → length ys ≡ suc (length (without x ys at))
  without_long x [] at = elim at [ ]
  without_long x (y ∷ ys) (inl is) = refl
  without_long x (y ∷ ys) (inr at) = ap suc (without_long x ys at)

  still_among : (x z : A) (ys : List A) (at : In x ys) → In z ys → (z ≡ x → ⊥) → In z (without x ys at)
  still_among x z [] at other differ = elim at [ ]
  still_among x z (y ∷ ys) (inl is) (inl same) differ = absurd (differ (same ∙ sym is))
  still_among x z (y ∷ ys) (inl is) (inr there) differ = there
  still_among x z (y ∷ ys) (inr at) (inl same) differ = inl same
  still_among x z (y ∷ ys) (inr at) (inr there) differ = inr (still_among x z ys at there differ)

  all_still : (x : A) (ys : List A) (at : In x ys) (xs : List A) → Missing x xs → EachOf (λ z. In z ys) xs →
      EachOf (λ z. In z (without x ys at)) xs
  all_still x ys at [] differ among = tt
  all_still x ys at (z ∷ xs) differ among = (still_among x z ys at among.0 differ.0, all_still x ys at xs differ.1 among.1)

  -- a list without doubles is no longer than one that has all of it
  pub pigeons : (xs ys : List A) → AllDiffer xs → EachOf (λ x. In x ys) xs → length xs ≤ length ys
  pigeons [] ys differ among = omega arith
  pigeons (x ∷ xs) ys differ among =
      let long = without_long x ys among.0 in
      let less = pigeons xs (without x ys among.0) differ.1 (all_still x ys among.0 xs differ.0 among.1) in
      omega arith
