-- Signs at a place of the text: one or two bytes, which begin neither white space nor a word.
use Rattle.std.proofs.Common.{◌≡◌, ◌≢◌, ℕ, zero, suc, ◌+◌, ◌-◌, ◌<◌, ◌≤◌, Bool, true, false, not, ◌&&◌, List, [], ◌∷◌, ◌⊎◌, inl, inr, ⊎_elim, length, get_or}
use Rattle.std.proofs.Common.{drop, refl, ap, sym, ◌∙◌, subst, arith, add-one, length-drop, length-take-le}
use Rattle.std.proofs.Math.Seq.{drop-cons}
use Rattle.std.specs.Prelude.{slice_get, slice_range, Some}
use Rattle.bl_tree.proofs.Basics.{all_at}
use Rattle.bl_lex.specs.Spelling.{signs, is_blank, is_word_byte}
use Rattle.bl_lex.specs.Pieces.{IsSign}
use Rattle.bl_lex.proofs.Tables.{is_known, all_known, begins_as_sign, all_begin_as_signs}

module _ (text : List ℕ) (start : ℕ) where
  pub range_one : start < length text → slice_range text start (start + 1) ≡ get_or text start 0 ∷ []
  range_one inside = let n : start + 1 - start ≡ suc zero = omega arith in rw (n, drop-cons text start 0 inside) refl

  pub range_two : start + 1 < length text → slice_range text start (start + 2) ≡ get_or text start 0 ∷ get_or text (start + 1) 0 ∷ []
  range_two inside = let n : start + 2 - start ≡ suc (suc zero) = omega arith in let one : start < length text = omega arith in
      let two : suc start < length text = omega arith in rw (n, drop-cons text start 0 one, drop-cons text (suc start) 0 two, add-one) refl

  pub range_length : (end : ℕ) → start ≤ end → end ≤ length text → length (slice_range text start end) ≡ end - start
  range_length end forward inside = let fits : end - start ≤ length (drop start text) = rw length-drop (omega arith) in
      length-take-le (end - start) (drop start text) fits

not_both : (a b : Bool) → not a && not b ≡ true → (a ≡ false) × (b ≡ false)
not_both true b is = cc
not_both false true is = cc
not_both false false is = (refl, refl)

-- a known sign has one byte or two
known_lengths : (s : List ℕ) → is_known s ≡ true → (length s ≡ 1) ⊎ (length s ≡ 2)
unfolding is_known
known_lengths [] is = cc
known_lengths (a ∷ []) is = inl refl
known_lengths (a ∷ b ∷ []) is = inr refl
known_lengths (a ∷ b ∷ c ∷ s) is = cc

-- a sign has one byte or two
pub sign_ends : (text : List ℕ) (start end k : ℕ) → IsSign text start end k → (end ≡ start + 1) ⊎ (end ≡ start + 2)
sign_ends text start end k is =
    let long : length (slice_range text start end) ≡ end - start = range_length text start end (omega (arith, is.nonempty)) is.inside in
    ⊎_elim (λ one. inl (omega (arith, is.nonempty))) (λ two. inr (omega (arith, is.nonempty)))
    (known_lengths _ (all_at is_known signs k _ all_known is.spelled))

-- the first byte of the bytes from one place up to another
pub range_first : (text : List ℕ) (start end : ℕ) → start < end → end ≤ length text →
    get_or (slice_range text start end) 0 0 ≡ get_or text start 0
range_first text start end forward inside = let some : end - start ≡ suc (end - start - 1) = omega arith in
    let in_text : start < length text = omega arith in rw (some, drop-cons text start 0 in_text) refl

-- the first byte of a sign is no white space and stands in no word
pub sign_first : (text : List ℕ) (start end k : ℕ) → IsSign text start end k →
    (is_blank (get_or text start 0) ≡ false) × (is_word_byte (get_or text start 0) ≡ false)
unfolding begins_as_sign
sign_first text start end k is =
    let h = all_at begins_as_sign signs k _ all_begin_as_signs is.spelled in
    let first = range_first text start end is.nonempty is.inside in
    let both : not (is_blank (get_or text start 0)) && not (is_word_byte (get_or text start 0)) ≡ true =
    subst (λ (b : ℕ). not (is_blank b) && not (is_word_byte b) ≡ true) first h in
    not_both _ _ both

-- where no two bytes are a sign, a sign has one byte
pub at_most_one : (text : List ℕ) (at end k : ℕ) → ((k : ℕ) → ¬ IsSign text at (at + 2) k) → IsSign text at end k → end ≤ at + 1
at_most_one text at end k no_two is = ⊎_elim (λ one. omega arith)
    (λ two. absurd (no_two k (subst (λ (e : ℕ). IsSign text at e k) two is))) (sign_ends text at end k is)

-- where neither one byte nor two are a sign, there is none
pub only_ends : (text : List ℕ) (at end k : ℕ) → ((k : ℕ) → ¬ IsSign text at (at + 1) k) → ((k : ℕ) → ¬ IsSign text at (at + 2) k) →
    ¬ IsSign text at end k
only_ends text at end k no_one no_two is = ⊎_elim (λ one. no_one k (subst (λ (e : ℕ). IsSign text at e k) one is))
    (λ two. no_two k (subst (λ (e : ℕ). IsSign text at e k) two is)) (sign_ends text at end k is)

slash_spelled : slice_get signs 17 ≡ Some (47 ∷ [])
unfolding signs
slash_spelled = refl

-- a slash is a sign where no star follows it
pub slash_sign : (text : List ℕ) (at : ℕ) → at < length text → get_or text at 0 ≡ 47 → get_or text (at + 1) 0 ≢ 42 → IsSign text at (at + 1) 17
slash_sign text at inside is no_star = record {
  nonempty = omega arith;
  inside = omega arith;
  spelled = slash_spelled ∙ ap Some (sym (range_one text at inside ∙ ap (λ b. b ∷ []) is));
  no_comment = λ opens. no_star opens.1;
}
