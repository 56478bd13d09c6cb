-- Answers in order, with one element more, and as far as 64 bits tell them.
use Rattle.std.proofs.Common.{◌≡◌, ℕ, ◌+◌, ◌<◌, ◌≤◌, List, [], ◌∷◌, ◌++◌, map, length, get_or, take, ap, refl, sym, ◌∙◌, take-suc, add-one}
use Rattle.std.proofs.lemmas.List.{map-append}
use Rattle.bl_limits_measures.specs.InOrder.{answers, answers_after}
use Rattle.bl_limits_measures.specs.Saturated.{saturated}

-- one element more
pub answers_push : {A X : Type 0} (step : List A → X → A) (known : List A) (xs : List X) (x : X)
    → answers_after step known (xs ++ x ∷ []) ≡ answers_after step known xs ++ step (answers_after step known xs) x ∷ []
answers_push step known [] x = refl
answers_push step known (y ∷ xs) x = answers_push step (known ++ step known y ∷ []) xs x

-- the first elements, and one more
pub take_one : {X : Type 0} (xs : List X) (k : ℕ) (x : X) → k < length xs → x ≡ get_or xs k x → take (k + 1) xs ≡ take k xs ++ x ∷ []
take_one xs k x within is = ap (λ n. take n xs) (add-one k) ∙ take-suc xs k x within ∙ ap (λ one. take k xs ++ one ∷ []) (sym is)

-- a step tells no less of numbers that are told as far as 64 bits tell them
abbrev pub Respects : {X : Type 0} → (List ℕ → X → ℕ) → Type 0
Respects {X} step = (known : List ℕ) (x : X) → saturated (step (map saturated known) x) ≡ saturated (step known x)

-- one answer more, as far as 64 bits tell it
pub told_push : {X : Type 0} (step : List ℕ → X → ℕ) (held then : List ℕ) (xs : List X) (x : X) → Respects step
    → held ≡ map saturated (answers step xs) → then ≡ held ++ saturated (step held x) ∷ [] → then ≡ map saturated (answers step (xs ++ x ∷ []))
told_push step held then xs x respects told grown =
    grown
    ∙ ap (λ known. known ++ saturated (step known x) ∷ []) told
    ∙ ap (λ n. map saturated (answers step xs) ++ n ∷ []) (respects (answers step xs) x)
    ∙ sym (map-append saturated (answers step xs) (step (answers step xs) x ∷ []))
    ∙ ap (map saturated) (sym (answers_push step [] xs x))

-- a loop over the elements
pub told_more : {X : Type 0} (step : List ℕ → X → ℕ) (held then : List ℕ) (xs : List X) (k : ℕ) (x : X) → Respects step →
    k < length xs → x ≡ get_or xs k x
    → held ≡ map saturated (answers step (take k xs)) → then ≡ held ++ saturated (step held x) ∷ [] →
    then ≡ map saturated (answers step (take (k + 1) xs))
told_more step held then xs k x respects within is told grown =
    told_push step held then (take k xs) x respects told grown ∙ ap (λ front. map saturated (answers step front)) (sym (take_one xs k x within is))
