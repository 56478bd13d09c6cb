-- The bytes of a text that stands in another, with a line feed behind it.
use Rattle.std.proofs.Common.{◌≡◌, ℕ, ◌+◌, ◌-◌, ◌<◌, ◌≤◌, List, [], ◌∷◌, ◌++◌, ◌⊎◌, ⊎_elim, length, get_or, take, drop, ap, ◌∙◌}
use Rattle.std.proofs.Common.{arith, length-append, length-drop}
use Rattle.std.specs.Prelude.{slice_range}
use Rattle.std.proofs.Math.ListN.{get_or-append}
use Rattle.std.proofs.Math.Seq.{get_or-append_seam, drop-append-add, take-append-add}
use Rattle.std.proofs.lemmas.List.{drop-append-le, get_or-append-add, take-append-le}

-- the whole is what stands before the text, the text, a line feed and what follows it
module _ (whole before text after : List ℕ) (is : whole ≡ before ++ (text ++ 10 ∷ after)) where
  pub long : length before + length text < length whole
  long = omega (arith, ap length is, length-append before (text ++ 10 ∷ after), length-append text (10 ∷ after))

  pub byte : (i j : ℕ) → j ≡ length before + i → i < length text → get_or whole j 0 ≡ get_or text i 0
  byte i j at inside = ap (λ n. get_or whole n 0) at ∙ ap (λ (t : List ℕ). get_or t (length before + i) 0) is
      ∙ get_or-append-add before (text ++ 10 ∷ after) i 0 ∙ get_or-append text (10 ∷ after) 0 i inside

  pub feed : (j : ℕ) → j ≡ length before + length text → get_or whole j 0 ≡ 10
  feed j at = ap (λ n. get_or whole n 0) at ∙ ap (λ (t : List ℕ). get_or t (length before + length text) 0) is
      ∙ get_or-append-add before (text ++ 10 ∷ after) (length text) 0 ∙ get_or-append_seam text 10 after 0

  pub front : (s : ℕ) → s ≤ length text → take (length before + s) whole ≡ before ++ take s text
  front s inside = ap (take (length before + s)) is ∙ take-append-add before (text ++ 10 ∷ after) s
      ∙ ap (λ (t : List ℕ). before ++ t) (take-append-le s text (10 ∷ after) inside)

  pub range : (s e : ℕ) → s ≤ e → e ≤ length text → slice_range whole (length before + s) (length before + e) ≡ slice_range text s e
  range s e forward inside =
      let size : length before + e - (length before + s) ≡ e - s = omega arith in
      let fits : e - s ≤ length (drop s text) = rw length-drop (omega arith) in
      ap (λ n. take n (drop (length before + s) whole)) size
      ∙ ap (λ (t : List ℕ). take (e - s) (drop (length before + s) t)) is
      ∙ ap (take (e - s)) (drop-append-add before (text ++ 10 ∷ after) s ∙ drop-append-le s text (10 ∷ after) (omega arith))
      ∙ take-append-le (e - s) (drop s text) (10 ∷ after) fits
