-- Where the next piece of a text stands.
use Rattle.std.proofs.Common.{◌≡◌, ℕ, zero, suc, ◌+◌, ◌-◌, ◌<◌, ◌≤◌, Bool, true, false, cond, ⊎_elim, List, [], ◌∷◌, length, drop, get_or, refl, sym, ap, ◌∙◌}
use Rattle.std.proofs.Common.{subst, arith}
use Rattle.std.specs.Prelude.{slice_range}
use Rattle.std.proofs.str.Laws.{order}
use Rattle.std.proofs.lemmas.List.{length-drop, length-take-le, drop-drop, get_or-drop}
use Rattle.bl_ctext.specs.Token.{Token, is_blank, is_double_sign, is_word_byte}
use Rattle.std.specs.Prelude.{◌&&◌}
use Rattle.std.proofs.lemmas.Bool.{or_right}
use Rattle.bl_ctext.specs.Token.{put_before}
use Rattle.bl_ctext.proofs.Bytes.{joined-not_blank}
use Rattle.bl_cparse_syntax.specs.Pieces.{cut_off, pieces, left_of, first_piece}
use Rattle.bl_cparse_syntax.proofs.Ranges.{drop_more}
use Rattle.bl_cparse_syntax.proofs.PieceLemmas.{first_left}
use Rattle.bl_cparse.specs.HasPlaces.{TextSpot, behind_tokens, blanks, next_spot}

-- how many of the bytes are no blanks
abbrev solid : List ℕ → ℕ
solid [] = 0
solid (b ∷ bs) = cond (is_blank b) (solid bs) (suc (solid bs))

abbrev weight : List Token → ℕ
weight [] = 0
weight (t ∷ ts) = length t + weight ts

put_weight : (a : ℕ) (near : List Token) → weight (put_before a near) ≡ suc (weight near)
put_weight a [] = refl
put_weight a (t ∷ ts) = omega arith

one_weight : (blank : Bool) (a : ℕ) → weight (cond blank [] ((a ∷ []) ∷ [])) ≡ cond blank 0 (suc 0)
one_weight true a = refl
one_weight false a = refl

cut_weight : (blank pair word : Bool) (a b : ℕ) (far near : List Token) → (pair ≡ true → weight near ≡ suc (weight far)) →
    weight (cut_off blank pair word a b far near) ≡ cond blank (weight near) (suc (weight near))
cut_weight true pair word a b far near h = refl
cut_weight false true word a b far near h = let e = h refl in omega (arith, e)
cut_weight false false true a b far near h = put_weight a near
cut_weight false false false a b far near h = omega arith

-- the pieces hold all bytes but blanks
weighs : (bs : List ℕ) → weight (pieces bs) ≡ solid bs
weighs [] = refl
weighs (a ∷ []) = one_weight (is_blank a) a
weighs (a ∷ b ∷ bs) =
    cut_weight (is_blank a) (is_double_sign a b) (is_word_byte a && is_word_byte b) a b (pieces bs) (pieces (b ∷ bs))
    (λ pair. weighs (b ∷ bs) ∙ (ap (λ c. cond c (solid bs) (suc (solid bs))) ((joined-not_blank a b (or_right _ _ pair)).1) ∙ ap suc (sym (weighs bs))))
    ∙ ap (λ w. cond (is_blank a) w (suc w)) (weighs (b ∷ bs))

no_less : (blank : Bool) (m n : ℕ) → m ≤ n → m ≤ cond blank n (suc n)
no_less true m n h = h
no_less false m n h = omega (arith, h)

fewer : (k : ℕ) (bs : List ℕ) → solid (drop k bs) ≤ solid bs
fewer zero bs = omega arith
fewer (suc k) [] = omega arith
fewer (suc k) (b ∷ bs) = no_less (is_blank b) (solid (drop k bs)) (solid bs) (fewer k bs)

module _ (text : List ℕ) where
  later : (i j : ℕ) → i ≤ j → solid (drop j text) ≤ solid (drop i text)
  later i j h = let whole : i + (j - i) ≡ j = omega (arith, h) in
      subst (λ ts. solid ts ≤ solid (drop i text)) (drop-drop (j - i) i text ∙ ap (λ k. drop k text) whole) (fewer (j - i) (drop i text))

  first_solid : (i : ℕ) → i < length text → is_blank (get_or text i 0) ≡ false → solid (drop i text) ≡ suc (solid (drop (i + 1) text))
  first_solid i inside h = ap solid (drop_more text i 0 inside) ∙ ap (λ c. cond c (solid (drop (i + 1) text)) (suc (solid (drop (i + 1) text)))) h

  no_earlier : (i j : ℕ) → i < j → j ≤ length text → (i < length text → is_blank (get_or text i 0) ≡ false) →
      solid (drop i text) ≡ solid (drop j text) → ⊥
  no_earlier i j less inside h e =
      let within : i < length text = omega (arith, less, inside) in
      let first = first_solid i within (h within) in
      let rest = later (i + 1) j (omega (arith, less)) in
      omega (arith, first, rest, e)

  -- where a piece starts or nothing is left, one offset alone has so many bytes behind it that are no blanks
  only_one : (i j : ℕ) → i ≤ length text → j ≤ length text → (i < length text → is_blank (get_or text i 0) ≡ false) →
      (j < length text → is_blank (get_or text j 0) ≡ false) →
      solid (drop i text) ≡ solid (drop j text) → i ≡ j
  only_one i j a b h k e =
      ⊎_elim (λ less. absurd (no_earlier i j less b h e))
      (λ more. ⊎_elim (λ less. absurd (no_earlier j i less a k (sym e))) (λ again. omega (arith, more, again)) (order j i)) (order i j)

  range_length : (a b : ℕ) → a ≤ b → b ≤ length text → length (slice_range text a b) ≡ b - a
  range_length a b h k = length-take-le (b - a) (drop a text) (omega (arith, h, k, length-drop a text))

more_blanks : (bs : List ℕ) (b : ℕ) (c : Bool) → is_blank b ≡ c → solid (drop (blanks bs) bs) ≡ solid bs →
    solid (drop (cond c (suc (blanks bs)) 0) (b ∷ bs)) ≡ cond c (solid bs) (suc (solid bs))
more_blanks bs b true e h = h
more_blanks bs b false e h = rw e refl

blanks_solid : (bs : List ℕ) → solid (drop (blanks bs) bs) ≡ solid bs
blanks_solid [] = refl
blanks_solid (b ∷ bs) = more_blanks bs b (is_blank b) refl (blanks_solid bs)

within_more : (c : Bool) (k n : ℕ) → k ≤ n → cond c (suc k) 0 ≤ suc n
within_more true k n h = omega (arith, h)
within_more false k n h = omega arith

blanks_within : (bs : List ℕ) → blanks bs ≤ length bs
blanks_within [] = omega arith
blanks_within (b ∷ bs) = within_more (is_blank b) (blanks bs) (length bs) (blanks_within bs)

stops_more : (bs : List ℕ) (b : ℕ) (c : Bool) → is_blank b ≡ c → (blanks bs < length bs → is_blank (get_or bs (blanks bs) 0) ≡ false) →
    cond c (suc (blanks bs)) 0 < suc (length bs) → is_blank (get_or (b ∷ bs) (cond c (suc (blanks bs)) 0) 0) ≡ false
stops_more bs b true e h k = h (omega (arith, k))
stops_more bs b false e h k = e

blanks_stop : (bs : List ℕ) → blanks bs < length bs → is_blank (get_or bs (blanks bs) 0) ≡ false
blanks_stop [] h = absurd (omega (arith, h))
blanks_stop (b ∷ bs) h = stops_more bs b (is_blank b) refl (blanks_stop bs) h

-- what is known of the next piece tells where it starts and ends
pub starts : (text : List ℕ) (at start : ℕ) → at ≤ length text → start ≤ length text →
    pieces (drop start text) ≡ pieces (drop at text) → (start < length text → is_blank (get_or text start 0) ≡ false) →
    start ≡ at + blanks (drop at text)
starts text at start inside within same no_blank =
    let left : length (drop at text) ≡ length text - at = length-drop at text in
    let few = blanks_within (drop at text) in
    let behind : at + blanks (drop at text) ≤ length text = omega (arith, inside, left, few) in
    let there : solid (drop (at + blanks (drop at text)) text) ≡ solid (drop at text) =
    ap solid (sym (drop-drop (blanks (drop at text)) at text)) ∙ blanks_solid (drop at text) in
    let weighed : solid (drop start text) ≡ solid (drop at text) = sym (weighs (drop start text)) ∙ (ap weight same ∙ weighs (drop at text)) in
    only_one text start (at + blanks (drop at text)) within behind no_blank
    (λ less. ap is_blank (sym (get_or-drop at text (blanks (drop at text)) 0)) ∙ blanks_stop (drop at text) (omega (arith, less, left)))
    (weighed ∙ sym there)

pub ends : (text : List ℕ) (at start end : ℕ) → start ≤ end → end ≤ length text → (start ≡ end → end ≡ length text) →
    left_of text start end ≡ pieces (drop at text) →
    end ≡ start + length (first_piece (pieces (drop at text)))
ends text at start end in_order inside at_end left =
    let first : length (first_piece (pieces (drop at text))) ≡ end - start =
    ap (λ ts. length (first_piece ts)) (sym left) ∙ (ap length (first_left text start end in_order inside at_end)
    ∙ range_length text start end in_order inside) in
    omega (arith, first, in_order)

-- behind so many pieces
abbrev pub times : ℕ → TextSpot → TextSpot
times zero s = s
times (suc n) s = next_spot (times n s)

first_time : (n : ℕ) (s : TextSpot) → times n (next_spot s) ≡ times (suc n) s
first_time zero s = refl
first_time (suc n) s = ap next_spot (first_time n s)

pub past_times : (tokens : List Token) (s : TextSpot) → behind_tokens tokens s ≡ times (length tokens) s
past_times [] s = refl
past_times (t ∷ ts) s = past_times ts (next_spot s) ∙ first_time (length ts) s
