-- What bytes are cut into, by how they begin.
use Rattle.std.proofs.Common.{◌≡◌, ℕ, suc, ◌+◌, ◌-◌, ◌<◌, ◌≤◌, Bool, true, false, ◌&&◌, nat_lt, List, [], ◌∷◌, ◌++◌, length, map, drop, get_or, refl, sym, ap}
use Rattle.std.proofs.Common.{◌∙◌, ◌⊎◌, ⊎_elim, arith}
use Rattle.std.specs.Prelude.{slice_range}
use Rattle.std.proofs.lemmas.Bool.Decides.{nat_tests}
use Rattle.std.proofs.str.Laws.{order}
use Rattle.std.proofs.lemmas.List.{drop_all, length-drop}
use Rattle.std.proofs.lemmas.List.Folds.{drop_split}
use Rattle.std.proofs.lemmas.Bool.{and_from, or_right}
use Rattle.bl_tree.proofs.Basics.{and_first, and_second, less_from, less_or_not, less_test}
use Rattle.bl_cparse_syntax.proofs.Ranges.{drop_more, range_cons, range_snoc, range_none}
use Rattle.bl_tree.specs.Reduce.{all_of}
use Rattle.bl_ctext.specs.Token.{is_blank, is_word_byte, is_double_sign, is_word}
use Rattle.bl_ctext.proofs.Bytes.{word_byte-not_blank, joined-not_blank}
use Rattle.bl_cparse_syntax.specs.Pieces.{cut_off, pieces, left_of, first_piece}

pub blank_first : (b : ℕ) (bs : List ℕ) → is_blank b ≡ true → pieces (b ∷ bs) ≡ pieces bs
blank_first b [] h = rw h refl
blank_first b (c ∷ cs) h = rw h refl

pub no_pair : (a b : ℕ) → is_word_byte a ≡ true → is_double_sign a b ≡ false
no_pair a b h = grind (arith, nat_tests)

-- whether the bytes begin with one of words
abbrev pub begins_word : List ℕ → Bool
begins_word [] = false
begins_word (b ∷ bs) = is_word_byte b

all_more : (xs : List ℕ) (b : ℕ) → all_of (map is_word_byte xs) ≡ true → is_word_byte b ≡ true →
    all_of (map is_word_byte (xs ++ b ∷ [])) ≡ true
all_more [] b h k = and_from _ _ k refl
all_more (x ∷ xs) b h k = and_from _ _ (and_first _ _ h) (all_more xs b (and_second _ _ h) k)

pub word_more : (w : List ℕ) (b : ℕ) → is_word w ≡ true → is_word_byte b ≡ true → is_word (w ++ b ∷ []) ≡ true
word_more [] b h k = cc
word_more (x ∷ xs) b h k = and_from _ _ (and_first _ _ h) (all_more xs b (and_second _ _ h) k)

word_cut : (b : ℕ) (bs rest : List ℕ) → is_word_byte b ≡ true → all_of (map is_word_byte bs) ≡ true → begins_word rest ≡ false →
    pieces (b ∷ (bs ++ rest)) ≡ (b ∷ bs) ∷ pieces rest
word_cut b [] [] h k stops = rw (word_byte-not_blank b h) refl
word_cut b [] (c ∷ cs) h k stops = rw (word_byte-not_blank b h, no_pair b c h, h, stops) refl
word_cut b (c ∷ cs) rest h k stops =
    let rest_cut : pieces (c ∷ (cs ++ rest)) ≡ (c ∷ cs) ∷ pieces rest = word_cut c cs rest (and_first _ _ k) (and_second _ _ k) stops in
    ap (λ near. cut_off (is_blank b) (is_double_sign b c) (is_word_byte b && is_word_byte c) b c (pieces (cs ++ rest)) near) rest_cut
    ∙ rw (word_byte-not_blank b h, no_pair b c h, h, and_first (is_word_byte c) _ k) refl

pub word_pieces : (w rest : List ℕ) → is_word w ≡ true → begins_word rest ≡ false → pieces (w ++ rest) ≡ w ∷ pieces rest
word_pieces [] rest h stops = cc
word_pieces (b ∷ bs) rest h stops = word_cut b bs rest (and_first _ _ h) (and_second _ _ h) stops

pub pair_pieces : (a b : ℕ) (bs : List ℕ) → is_double_sign a b ≡ true → pieces (a ∷ b ∷ bs) ≡ (a ∷ b ∷ []) ∷ pieces bs
pair_pieces a b bs h =
    let no_blank : is_blank a ≡ false = (joined-not_blank a b (or_right _ _ h)).0 in
    rw (no_blank, h) refl

-- whether a sign of two bytes stands first
abbrev pub begins_pair : List ℕ → Bool
begins_pair (a ∷ b ∷ bs) = is_double_sign a b
begins_pair _ = false

pub single_piece : (a : ℕ) (bs : List ℕ) → is_blank a ≡ false → is_word_byte a ≡ false → begins_pair (a ∷ bs) ≡ false →
    pieces (a ∷ bs) ≡ (a ∷ []) ∷ pieces bs
single_piece a [] h k p = rw h refl
single_piece a (b ∷ bs) h k p = rw (h, p, k) refl

module _ (text : List ℕ) where
  pub pair_is : (start : ℕ) → (nat_lt (start + 1) (length text) && is_double_sign (get_or text start 0) (get_or text (start + 1) 0)) ≡ true →
      (start + 1 < length text) × (is_double_sign (get_or text start 0) (get_or text (start + 1) 0) ≡ true)
  pair_is start h = let first = and_first _ _ h in (less_from (start + 1) (length text) first, and_second _ _ h)

  inside_of : (i : ℕ) (b : ℕ) (bs : List ℕ) → drop i text ≡ b ∷ bs → i < length text
  inside_of i b bs e = let n : length text - i ≡ suc (length bs) = sym (length-drop i text) ∙ ap length e in omega (arith, n)

  nothing_left : (end : ℕ) → end ≡ length text → drop end text ≡ []
  nothing_left end e = drop_all end text (omega (arith, e))

  at_the_end : (start end : ℕ) → start ≡ end → end ≡ length text → first_piece (left_of text start end) ≡ slice_range text start end
  at_the_end start end same e = rw (range_none text start end (omega (arith, same)), nothing_left end e) refl

  nothing_behind : (start end : ℕ) → start ≡ end → end ≡ length text → drop 1 (left_of text start end) ≡ pieces (drop end text)
  nothing_behind start end same e = rw (range_none text start end (omega (arith, same)), nothing_left end e) refl

  pub blank_at : (i : ℕ) → i < length text → is_blank (get_or text i 0) ≡ true → pieces (drop (i + 1) text) ≡ pieces (drop i text)
  blank_at i inside h = sym (ap pieces (drop_more text i 0 inside) ∙ blank_first (get_or text i 0) (drop (i + 1) text) h)

  begins_at : (i : ℕ) → (i < length text → is_word_byte (get_or text i 0) ≡ false) → begins_word (drop i text) ≡ false
  begins_at i h = at_drop (drop i text) refl
    where
      at_drop : (rest : List ℕ) → drop i text ≡ rest → begins_word rest ≡ false
      at_drop [] e = refl
      at_drop (b ∷ bs) e =
          let inside : i < length text = inside_of i b bs e in
          let here : b ∷ bs ≡ get_or text i 0 ∷ drop (i + 1) text = sym e ∙ drop_more text i 0 inside in
          let first : b ≡ get_or text i 0 = cc in
          rw first (h inside)

  pub word_at : (start end : ℕ) → start < end → end ≤ length text → is_word (slice_range text start end) ≡ true →
      (end < length text → is_word_byte (get_or text end 0) ≡ false) →
      pieces (drop start text) ≡ slice_range text start end ∷ pieces (drop end text)
  word_at start end beyond inside word stops =
      ap pieces (drop_split text start end (omega arith)) ∙ word_pieces (slice_range text start end) (drop end text) word (begins_at end stops)

  pub one_byte : (start : ℕ) → start < length text → slice_range text start (start + 1) ≡ get_or text start 0 ∷ []
  one_byte start inside = range_cons text start (start + 1) 0 (omega arith) (omega arith)
      ∙ ap (λ xs. get_or text start 0 ∷ xs) (range_none text (start + 1) (start + 1) (omega arith))

  pub two_bytes : (start : ℕ) → start + 1 < length text → slice_range text start (start + 2) ≡ get_or text start 0 ∷ get_or text (start + 1) 0 ∷ []
  two_bytes start inside =
      let more : start + 1 + 1 ≡ start + 2 = omega arith in
      range_cons text start (start + 2) 0 (omega arith) (omega arith)
      ∙ ap (λ xs. get_or text start 0 ∷ xs) (ap (λ n. slice_range text (start + 1) n) (sym more) ∙ one_byte (start + 1) inside)

  pub word_first : (start : ℕ) → start < length text → is_word_byte (get_or text start 0) ≡ true →
      is_word (slice_range text start (start + 1)) ≡ true
  word_first start inside h = rw (one_byte start inside) (and_from _ _ h refl)

  pub word_next : (start end : ℕ) → start ≤ end → end < length text → is_word (slice_range text start end) ≡ true →
      is_word_byte (get_or text end 0) ≡ true → is_word (slice_range text start (end + 1)) ≡ true
  word_next start end le inside word h = rw (range_snoc text start end 0 le inside) (word_more (slice_range text start end) (get_or text end 0) word h)

  pub pair_at : (start : ℕ) → start + 1 < length text → is_double_sign (get_or text start 0) (get_or text (start + 1) 0) ≡ true →
      pieces (drop start text) ≡ slice_range text start (start + 2) ∷ pieces (drop (start + 2) text)
  pair_at start inside h =
      let more : start + 1 + 1 ≡ start + 2 = omega arith in
      let first : drop start text ≡ get_or text start 0 ∷ drop (start + 1) text = drop_more text start 0 (omega arith) in
      let second : drop (start + 1) text ≡ get_or text (start + 1) 0 ∷ drop (start + 1 + 1) text = drop_more text (start + 1) 0 inside in
      let third : drop (start + 1 + 1) text ≡ drop (start + 2) text = ap (λ n. drop n text) more in
      ap pieces (first ∙ ap (λ xs. get_or text start 0 ∷ xs) (second ∙ ap (λ xs. get_or text (start + 1) 0 ∷ xs) third))
      ∙ (pair_pieces (get_or text start 0) (get_or text (start + 1) 0) (drop (start + 2) text) h
      ∙ ap (λ t. t ∷ pieces (drop (start + 2) text)) (sym (two_bytes start inside)))

  pub single_at : (start : ℕ) → start < length text → is_blank (get_or text start 0) ≡ false → is_word_byte (get_or text start 0) ≡ false →
      (nat_lt (start + 1) (length text) && is_double_sign (get_or text start 0) (get_or text (start + 1) 0)) ≡ false →
      pieces (drop start text) ≡ slice_range text start (start + 1) ∷ pieces (drop (start + 1) text)
  single_at start inside h k none =
      ap pieces (drop_more text start 0 inside)
      ∙ (single_piece (get_or text start 0) (drop (start + 1) text) h k (no_pair_at (drop (start + 1) text) refl)
      ∙ ap (λ t. t ∷ pieces (drop (start + 1) text)) (sym (one_byte start inside)))
    where
      no_pair_at : (rest : List ℕ) → drop (start + 1) text ≡ rest → begins_pair (get_or text start 0 ∷ rest) ≡ false
      no_pair_at [] e = refl
      no_pair_at (b ∷ bs) e =
          let within : start + 1 < length text = inside_of (start + 1) b bs e in
          let here : b ∷ bs ≡ get_or text (start + 1) 0 ∷ drop (start + 1 + 1) text = sym e ∙ drop_more text (start + 1) 0 within in
          let second : b ≡ get_or text (start + 1) 0 = cc in
          let test : nat_lt (start + 1) (length text) ≡ true = less_test (start + 1) (length text) within in
          rw second (rw test at none)

  pub left_cut : (start end : ℕ) → start < end → end ≤ length text → left_of text start end ≡ slice_range text start end ∷ pieces (drop end text)
  left_cut start end beyond inside = rw (range_cons text start end 0 beyond inside) refl

  -- the first of what is left is the piece between the offsets, also at the end
  pub first_left : (start end : ℕ) → start ≤ end → end ≤ length text → (start ≡ end → end ≡ length text) →
      first_piece (left_of text start end) ≡ slice_range text start end
  first_left start end order inside at_end = ⊎_elim (λ less. ap first_piece (left_cut start end less inside))
      (λ more. at_the_end start end (omega (arith, order, more)) (at_end (omega (arith, order, more)))) (less_or_not start end)

  pub behind_left : (start end : ℕ) → start ≤ end → end ≤ length text → (start ≡ end → end ≡ length text) →
      drop 1 (left_of text start end) ≡ pieces (drop end text)
  behind_left start end order inside at_end = ⊎_elim (λ less. ap (λ ts. drop 1 ts) (left_cut start end less inside))
      (λ more. nothing_behind start end (omega (arith, order, more)) (at_end (omega (arith, order, more)))) (less_or_not start end)
