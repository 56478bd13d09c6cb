-- What stands in a table of answers in order.
use Rattle.std.proofs.Common.{◌≡◌, ℕ, zero, suc, ◌+◌, ◌<◌, List, [], ◌∷◌, ◌++◌, map, length, get_or, take, Some, ap, refl, sym, ◌∙◌, arith, take_all}
use Rattle.std.specs.Prelude.{All, slice_get, slice_index}
use Rattle.std.proofs.lemmas.List.{get_or-take, get_or_push, length-take-le, length_push, take-take, take_all}
use Rattle.std.proofs.lemmas.List.Elements.{All-head, All-tail}
use Rattle.std.proofs.lemmas.Option.{get_or_from_slice_get, slice_get_within}
use Rattle.bl_limits_measures.specs.InOrder.{answers, answers_after}
use Rattle.bl_limits_measures.proofs.Orders.{answers_push, take_one}

module _ {A X : Type 0} (step : List A → X → A) where
  pub length_answers : (known : List A) (xs : List X) → length (answers_after step known xs) ≡ length known + length xs
  length_answers known [] = omega arith
  length_answers known (x ∷ xs) =
      let more = known ++ step known x ∷ [] in
      let one = length_push known (step known x) in
      let rest = length_answers more xs in
      omega (arith, one, rest)

  front_answers : (known : List A) (xs : List X) → take (length known) (answers_after step known xs) ≡ known
  front_answers known [] = take_all (length known) known (omega arith)
  front_answers known (x ∷ xs) =
      let more = known ++ step known x ∷ [] in
      let one = length_push known (step known x) in
      let all = answers_after step more xs in
      sym (take-take (length known) (length more) all (omega (arith, one))) ∙ ap (take (length known)) (front_answers more xs) ∙ first known (step known x)
    where
      first : (known : List A) (a : A) → take (length known) (known ++ a ∷ []) ≡ known
      first [] a = refl
      first (b ∷ known) a = ap (λ rest. b ∷ rest) (first known a)

  take_answers_after : (known : List A) (xs : List X) (k : ℕ) →
      take (length known + k) (answers_after step known xs) ≡ answers_after step known (take k xs)
  take_answers_after known xs zero = (let none : length known + 0 ≡ length known = omega arith in
      ap (λ n. take n (answers_after step known xs)) none) ∙ front_answers known xs
  take_answers_after known [] (suc k) = take_all (length known + suc k) known (omega arith)
  take_answers_after known (x ∷ xs) (suc k) =
      let more = known ++ step known x ∷ [] in
      let one = length_push known (step known x) in
      let same : length known + suc k ≡ length more + k = omega (arith, one) in
      ap (λ n. take n (answers_after step more xs)) same ∙ take_answers_after more xs k

  -- the answers for the first elements are the first answers
  pub take_answers : (xs : List X) (k : ℕ) → take k (answers step xs) ≡ answers step (take k xs)
  take_answers xs k = (let none : k ≡ 0 + k = omega arith in ap (λ n. take n (answers step xs)) none) ∙ take_answers_after [] xs k

  -- the answer for an element is made from those before it
  pub answer_at : (xs : List X) (k : ℕ) (x : X) (d : A) → slice_get xs k ≡ Some x → get_or (answers step xs) k d ≡ step (take k (answers step xs)) x
  answer_at xs k x d there =
      let within = slice_get_within xs k x there in
      let front = answers step (take k xs) in
      let all = length_answers [] (take k xs) in
      let some = length-take-le k xs (omega arith) in
      let long : length front ≡ k = omega arith in
      let more : take (k + 1) (answers step xs) ≡ front ++ step front x ∷ [] =
      take_answers xs (k + 1) ∙ ap (answers step) (take_one xs k x within (sym (get_or_from_slice_get xs k x x there)))
      ∙ answers_push step [] (take k xs) x in
      sym (get_or-take (k + 1) (answers step xs) k d (omega arith))
      ∙ ap (λ table. get_or table k d) more
      ∙ get_or_push front (step front x) d k long
      ∙ ap (λ known. step known x) (sym (take_answers xs k))

-- what is known of earlier positions
pub known_before : (table : List ℕ) (k : ℕ) (positions : List ℕ) → All (λ j. j < k) positions →
    map (slice_index (take k table)) positions ≡ map (slice_index table) positions
known_before table k [] all = refl
known_before table k (j ∷ rest) all =
    λ i. get_or-take k table j 0 (All-head (λ j. j < k) j rest all) i ∷ known_before table k rest (All-tail (λ j. j < k) j rest all) i
