-- Lists that end in one element more.
use Rattle.std.proofs.Common.{◌≡◌, List, [], ◌∷◌, ◌++◌, ◌⊎◌, inl, inr, ⊎_elim, refl}

module _ {X : Type 0} where
  pub never_empty : (ys : List X) (y : X) (zs : List X) → [] ≡ ys ++ y ∷ zs → ⊥
  never_empty [] y zs e = cc
  never_empty (x ∷ ys) y zs e = cc

  pub snoc_parts : (xs ys : List X) (x y : X) → xs ++ x ∷ [] ≡ ys ++ y ∷ [] → (xs ≡ ys) × (x ≡ y)
  snoc_parts [] [] x y e = (refl, cc)
  snoc_parts [] (b ∷ ys) x y e = let h : [] ≡ ys ++ y ∷ [] = cc in absurd (never_empty ys y [] h)
  snoc_parts (a ∷ xs) [] x y e = let h : [] ≡ xs ++ x ∷ [] = cc in absurd (never_empty xs x [] h)
  snoc_parts (a ∷ xs) (b ∷ ys) x y e = let h : xs ++ x ∷ [] ≡ ys ++ y ∷ [] = cc in let more = snoc_parts xs ys x y h in
      let first : a ≡ b = cc in let rest : xs ≡ ys = more.0 in (cc, more.1)

  -- an element of the longer list is the last one, or stands in the list before it
  abbrev pub Where : List X → X → List X → X → List X → Type 0
  Where xs p before part after = ((after ≡ []) × (xs ≡ before) × (p ≡ part))
      ⊎ ((rest : List X) × (after ≡ rest ++ p ∷ []) × (xs ≡ before ++ part ∷ rest))

  pub where_in : (xs before : List X) (p part : X) (after : List X) → xs ++ p ∷ [] ≡ before ++ part ∷ after → Where xs p before part after
  where_in [] [] p part after e = inl (cc, refl, cc)
  where_in (x ∷ xs) [] p part after e = inr (xs, cc, let h : x ≡ part = cc in cc)
  where_in [] (b ∷ bs) p part after e = let h : [] ≡ bs ++ part ∷ after = cc in absurd (never_empty bs part after h)
  where_in (x ∷ xs) (b ∷ bs) p part after e =
      let h : xs ++ p ∷ [] ≡ bs ++ part ∷ after = cc in
      let first : x ≡ b = cc in
      ⊎_elim (λ l. inl (l.0, (λ i. first i ∷ l.1 i), l.2)) (λ r. inr (r.0, r.1, (λ i. first i ∷ r.2 i))) (where_in xs bs p part after h)
