-- Code that grows at its front.
use Rattle.std.proofs.Common.{◌≡◌, ℕ, List, [], ◌∷◌, ◌++◌, length, reverse, set, ap, sym, ◌∙◌, append_assoc}
use Rattle.std.proofs.lemmas.List.{length-reverse, reverse-append, reverse-reverse, set_at}

-- an instruction in place of another
pub set-reversed : {A : Type 0} (items front rest : List A) (old new : A) (k : ℕ) → reverse items ≡ front ++ old ∷ rest → length rest ≡ k →
    reverse (set items k new) ≡ front ++ new ∷ rest
set-reversed {A} items front rest old new k is long =
    let forward : (x : A) → reverse (front ++ x ∷ rest) ≡ reverse rest ++ x ∷ reverse front =
    λ (x : A). reverse-append front (x ∷ rest) ∙ ap (λ xs. xs ++ reverse front) (reverse-append (x ∷ []) rest)
    ∙ append_assoc (reverse rest) (x ∷ []) (reverse front) in
    let there : items ≡ reverse rest ++ old ∷ reverse front = sym (reverse-reverse items) ∙ ap reverse is ∙ forward old in
    ap (λ xs. reverse (set xs k new)) there
    ∙ ap reverse (set_at (reverse rest) old (reverse front) new k (length-reverse rest ∙ long) ∙ sym (forward new))
    ∙ reverse-reverse (front ++ new ∷ rest)
