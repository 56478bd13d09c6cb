-- What stands at a place, by its first byte; a piece has one form and one end; a fault begins no piece.
use Rattle.std.proofs.Common.{◌≡◌, ◌≢◌, ℕ, ◌+◌, ◌-◌, ◌<◌, ◌≤◌, ◌^◌, min, true, false, List, [], ◌∷◌, ◌⊎◌, inl, inr, ⊎_elim, length, get_or, refl, ap, sym}
use Rattle.std.proofs.Common.{◌∙◌, subst, arith}
use Rattle.std.proofs.lemmas.Bool.Decides.{nat_tests}
use Rattle.std.proofs.str.Laws.{order}
use Rattle.std.specs.Prelude.{slice_get, slice_range, Some, Result, Ok, Err, MatchResult}
use Rattle.bl_tree.proofs.Basics.{true_and_false}
use Rattle.bl_tree.proofs.KeywordLemmas.{position_is}
use Rattle.bl_tree.specs.Keywords.{position}
use Rattle.bl_tree.specs.declared.place.Place.{Place}
use Rattle.bl_tree.specs.declared.token.TokenKind.TheVariants.{Number, Word, Sign}
use Rattle.bl_lex.specs.declared.piece.Form.{Form}
use Rattle.bl_lex.specs.declared.piece.Form.TheVariants.{Blank, Comment, Token}
use Rattle.bl_lex.specs.Spelling.{signs, is_blank, is_word_byte}
use Rattle.bl_lex.specs.Pieces.{IsLineComment, IsBlockComment, IsWord, WordIs, IsSign, IsPiece, NoPieceAt}
use Rattle.bl_lex.specs.Pieces.WordIs.{keyword, name, number, outside, octal, fraction}
use Rattle.bl_lex.specs.Pieces.IsPiece.{blank, line_comment, block_comment, word, sign}
use Rattle.bl_lex.specs.Tokens.{IsLongest}
use Rattle.bl_lex.specs.declared.piece.Piece.{Piece}
use Rattle.bl_lex.specs.inner.Steps.{IsWordPiece, IsLongestAt}
use Rattle.bl_lex.specs.Rules.{IsMalformedNumber, IsFault}
use Rattle.bl_lex.proofs.Tables.{is_two_bytes, two_bytes_known}
use Rattle.bl_lex.proofs.Signs.{sign_ends, sign_first, range_two}
use Rattle.bl_lex.proofs.WordLaws.{one_keyword, one_sign, keyword_not_outside, keyword_begins, outside_begins, decimal_begins, number_begins, octal_begins}
use Rattle.bl_lex.proofs.WordLaws.{one_number, number_not_octal}

-- no byte of words is white space
blank_no_word : (b : ℕ) → is_blank b ≡ true → is_word_byte b ≡ false
blank_no_word b is = grind (arith, nat_tests)

-- two ends of one kind are the same, where the lesser end would be inside the other
same_end : (P : ℕ → Type 0) → ((e f : ℕ) → P e → P f → e < f → ⊥) → (e f : ℕ) → P e → P f → e ≡ f
same_end P apart e f a b = ⊎_elim (λ less. absurd (apart e f a b less))
    (λ more. ⊎_elim (λ less. absurd (apart f e b a less)) (λ no_more. omega arith) (order f e)) (order e f)

module _ (text : List ℕ) (start : ℕ) where
  pub one_word : (e f : ℕ) → IsWord text start e → IsWord text start f → e ≡ f
  one_word = same_end (IsWord text start) (λ e f a b less. let stops = a.stops (omega (arith, b.inside)) in let goes =
      b.each e (omega (arith, a.nonempty)) less in cc)

  pub one_line_comment : (e f : ℕ) → IsLineComment text start e → IsLineComment text start f → e ≡ f
  one_line_comment = same_end (IsLineComment text start) (λ e f a b less. b.one_line e (omega (arith, a.body)) less (a.stops (omega (arith, b.inside))))

  pub one_block_comment : (e f : ℕ) → IsBlockComment text start e → IsBlockComment text start f → e ≡ f
  one_block_comment = same_end (IsBlockComment text start) (λ e f a b less. b.next (e - 2) (omega (arith, a.body)) (omega (arith, a.body)) a.closes)

  pub of_blank : {end : ℕ} {form : Form} → is_blank (get_or text start 0) ≡ true → IsPiece text start end form →
      (end ≡ start + 1) × (form ≡ Blank)
  of_blank b (blank inside e is) = (e, refl)
  of_blank b (line_comment c) = absurd (true_and_false false (subst (λ (x : ℕ). is_blank x ≡ true) c.first b) refl)
  of_blank b (block_comment c) = absurd (true_and_false false (subst (λ (x : ℕ). is_blank x ≡ true) c.opens.0 b) refl)
  of_blank b (word w is) = absurd (true_and_false (is_word_byte (get_or text start 0)) (w.each start (omega arith) w.nonempty) (blank_no_word (get_or text start 0) b))
  of_blank b (sign s) = absurd (true_and_false (is_blank (get_or text start 0)) b (sign_first _ _ _ _ s).0)

  pub of_word : {end : ℕ} {form : Form} → is_word_byte (get_or text start 0) ≡ true → IsPiece text start end form →
      IsWord text start end × WordIs text end (slice_range text start end) form
  of_word b (blank inside e is) = absurd (true_and_false (is_word_byte (get_or text start 0)) b (blank_no_word (get_or text start 0) is))
  of_word b (line_comment c) = absurd (true_and_false false (subst (λ (x : ℕ). is_word_byte x ≡ true) c.first b) refl)
  of_word b (block_comment c) = absurd (true_and_false false (subst (λ (x : ℕ). is_word_byte x ≡ true) c.opens.0 b) refl)
  of_word b (word w is) = (w, is)
  of_word b (sign s) = absurd (true_and_false (is_word_byte (get_or text start 0)) b (sign_first _ _ _ _ s).1)

  -- what a piece is that begins with a slash
  abbrev pub SlashCases : ℕ → Form → Type 0
  SlashCases end form = (IsLineComment text start end × (form ≡ Comment))
      ⊎ ((IsBlockComment text start end × (form ≡ Comment)) ⊎ ((k : ℕ) × IsSign text start end k × (form ≡ Token (Sign k))))

  pub of_slash : {end : ℕ} {form : Form} → get_or text start 0 ≡ 47 → IsPiece text start end form → SlashCases end form
  of_slash b (blank inside e is) = absurd (true_and_false false (subst (λ (x : ℕ). is_blank x ≡ true) b is) refl)
  of_slash b (line_comment c) = inl (c, refl)
  of_slash b (block_comment c) = inr (inl (c, refl))
  of_slash b (word w is) = absurd (true_and_false false (subst (λ (x : ℕ). is_word_byte x ≡ true) b (w.each start (omega arith) w.nonempty)) refl)
  of_slash b (sign s) = inr (inr (_, s, refl))

  pub of_other : {end : ℕ} {form : Form} → is_blank (get_or text start 0) ≡ false → is_word_byte (get_or text start 0) ≡ false →
      get_or text start 0 ≢ 47 → IsPiece text start end form → (k : ℕ) × IsSign text start end k × (form ≡ Token (Sign k))
  of_other no_blank no_word no_slash (blank inside e is) = absurd (true_and_false (is_blank (get_or text start 0)) is no_blank)
  of_other no_blank no_word no_slash (line_comment c) = absurd (no_slash c.first)
  of_other no_blank no_word no_slash (block_comment c) = absurd (no_slash c.opens.0)
  of_other no_blank no_word no_slash (word w is) = absurd (true_and_false (is_word_byte (get_or text start 0)) (w.each start (omega arith) w.nonempty) no_word)
  of_other no_blank no_word no_slash (sign s) = (_, s, refl)

  -- pieces that are the longest at their place

  pub longest_blank : start < length text → is_blank (get_or text start 0) ≡ true →
      IsLongest text (record { start = start; end = start + 1; form = Blank })
  longest_blank inside is = record { piece = blank inside refl is; longest = λ end form p. let e = (of_blank is p).0 in omega arith }

  pub longest_word : (end : ℕ) (form : Form) → is_word_byte (get_or text start 0) ≡ true → IsWord text start end →
      WordIs text end (slice_range text start end) form → IsLongest text (record { start = start; end = end; form = form })
  longest_word end form b whole is = record { piece = word whole is; longest = λ other f p. let e = one_word end other whole (of_word b p).0 in omega arith }

  pub longest_line_comment : (end : ℕ) → IsLineComment text start end → IsLongest text (record { start = start; end = end; form = Comment })
  longest_line_comment end c = record {
    piece = line_comment c;
    longest = λ other f p. ⊎_elim
        (λ l. let e = one_line_comment end other c l.0 in omega arith)
        (⊎_elim (λ l. absurd (two_seconds c.second l.0.opens.1)) (λ s. let ends = sign_ends _ _ _ _ s.1 in omega (arith, c.body)))
        (of_slash c.first p);
  } where
    two_seconds : get_or text (start + 1) 0 ≡ 47 → get_or text (start + 1) 0 ≡ 42 → ⊥
    two_seconds a b = omega arith

  pub longest_block_comment : (end : ℕ) → IsBlockComment text start end → IsLongest text (record { start = start; end = end; form = Comment })
  longest_block_comment end c = record {
    piece = block_comment c;
    longest = λ other f p. ⊎_elim
        (λ l. absurd (two_seconds l.0.second c.opens.1))
        (⊎_elim (λ l. let e = one_block_comment end other c l.0 in omega arith) (λ s. let ends = sign_ends _ _ _ _ s.1 in omega (arith, c.body)))
        (of_slash c.opens.0 p);
  } where
    two_seconds : get_or text (start + 1) 0 ≡ 47 → get_or text (start + 1) 0 ≡ 42 → ⊥
    two_seconds a b = omega arith

  -- a sign that begins with a slash has one byte
  slash_alone : (end k : ℕ) → get_or text start 0 ≡ 47 → IsSign text start end k → end ≡ start + 1
  slash_alone end k b s = ⊎_elim (λ one. one) (λ two. absurd (no_two two)) (sign_ends _ _ _ _ s)
    where
      no_two : end ≡ start + 2 → ⊥
      no_two e =
          let inside : start + 1 < length text = omega (arith, s.inside) in
          let at_two : slice_get signs k ≡ Some (slice_range text start (start + 2)) =
          subst (λ (x : ℕ). slice_get signs k ≡ Some (slice_range text start x)) e s.spelled in
          let bytes : slice_get signs k ≡ Some (get_or text start 0 ∷ get_or text (start + 1) 0 ∷ []) =
          at_two ∙ ap Some (range_two text start inside) in
          true_and_false false (subst (λ (x : ℕ). is_two_bytes x (get_or text (start + 1) 0) ≡ true) b
          (two_bytes_known (get_or text start 0) (get_or text (start + 1) 0) k bytes)) refl

  pub longest_slash : (k : ℕ) → get_or text start 0 ≡ 47 → get_or text (start + 1) 0 ≢ 47 → get_or text (start + 1) 0 ≢ 42 →
      IsSign text start (start + 1) k → IsLongest text (record { start = start; end = start + 1; form = Token (Sign k) })
  longest_slash k b no_slash no_star s = record {
    piece = sign s;
    longest = λ other f p. ⊎_elim (λ l. absurd (no_slash l.0.second))
        (⊎_elim (λ l. absurd (no_star l.0.opens.1)) (λ t. let e = slash_alone other t.0 b t.1 in omega arith)) (of_slash b p);
  }

  pub longest_sign : (end k : ℕ) (form : Form) → is_blank (get_or text start 0) ≡ false →
      is_word_byte (get_or text start 0) ≡ false → get_or text start 0 ≢ 47 → form ≡ Token (Sign k) → IsSign text start end k →
      ((other j : ℕ) → IsSign text start other j → other ≤ end) → IsLongest text (record { start = start; end = end; form = form })
  longest_sign end k form no_blank no_word no_slash is s longest =
      record {
        piece = subst (IsPiece text start end) (sym is) (sign s);
        longest = λ other f p. let h =
            of_other no_blank no_word no_slash p in longest other h.0 h.1;
      }

  pub no_piece : is_blank (get_or text start 0) ≡ false → is_word_byte (get_or text start 0) ≡ false → get_or text start 0 ≢ 47 →
      ((end k : ℕ) → ¬ IsSign text start end k) → NoPieceAt text start
  no_piece no_blank no_word no_slash none end f p = let h = of_other no_blank no_word no_slash p in none end h.0 h.1

  -- a word is one thing

  pub one_meaning : (end : ℕ) (w : List ℕ) {f g : Form} → WordIs text end w f → WordIs text end w g → f ≡ g
  one_meaning end w (keyword {k = k} a) (keyword {k = j} b) = ap (λ n. Token (Word n)) (position_is k j (one_keyword (position k) (position j) w a b))
  one_meaning end w (keyword {k = k} a) (name d no_word not_outside) = absurd (no_word (position k) a)
  one_meaning end w (keyword {k = k} a) (number n no_fraction kept) = absurd (true_and_false _ (number_begins n) (keyword_begins (position k) w a))
  one_meaning end w (keyword {k = k} a) (outside j b) = absurd (keyword_not_outside (position k) j w a b)
  one_meaning end w (keyword {k = k} a) (octal o) = absurd (true_and_false _ (octal_begins w o) (keyword_begins (position k) w a))
  one_meaning end w (keyword {k = k} a) (fraction d at) = absurd (true_and_false _ (decimal_begins w d) (keyword_begins (position k) w a))
  one_meaning end w (name d no_word not_outside) (keyword {k = k} b) = absurd (no_word (position k) b)
  one_meaning end w (name d no_word not_outside) (name d' no_word' not_outside') = refl
  one_meaning end w (name d no_word not_outside) (number n no_fraction kept) = absurd (true_and_false _ (number_begins n) d)
  one_meaning end w (name d no_word not_outside) (outside j b) = absurd (not_outside j b)
  one_meaning end w (name d no_word not_outside) (octal o) = absurd (true_and_false _ (octal_begins w o) d)
  one_meaning end w (name d no_word not_outside) (fraction e at) = absurd (true_and_false _ (decimal_begins w e) d)
  one_meaning end w (number n no_fraction kept) (keyword {k = k} a) = absurd (true_and_false _ (number_begins n) (keyword_begins (position k) w a))
  one_meaning end w (number n no_fraction kept) (name d no_word not_outside) = absurd (true_and_false _ (number_begins n) d)
  one_meaning end w (number n no_fraction kept) (number m no_fraction' kept') =
      ap (λ x. Token (Number x)) (kept ∙ ap (λ x. min x (2 ^ 64)) (one_number n m) ∙ sym kept')
  one_meaning end w (number n no_fraction kept) (outside j b) = absurd (true_and_false _ (number_begins n) (outside_begins j w b))
  one_meaning end w (number n no_fraction kept) (octal o) = absurd (number_not_octal n o)
  one_meaning end w (number n no_fraction kept) (fraction d at) = absurd (no_fraction d at)
  one_meaning end w (outside j b) (keyword {k = k} a) = absurd (keyword_not_outside (position k) j w a b)
  one_meaning end w (outside j b) (name d no_word not_outside) = absurd (not_outside j b)
  one_meaning end w (outside j b) (number n no_fraction kept) = absurd (true_and_false _ (number_begins n) (outside_begins j w b))
  one_meaning end w (outside j b) (outside k a) = refl
  one_meaning end w (outside j b) (octal o) = refl
  one_meaning end w (outside j b) (fraction d at) = refl
  one_meaning end w (octal o) (keyword {k = k} a) = absurd (true_and_false _ (octal_begins w o) (keyword_begins (position k) w a))
  one_meaning end w (octal o) (name d no_word not_outside) = absurd (true_and_false _ (octal_begins w o) d)
  one_meaning end w (octal o) (number n no_fraction kept) = absurd (number_not_octal n o)
  one_meaning end w (octal o) (outside j b) = refl
  one_meaning end w (octal o) (octal o') = refl
  one_meaning end w (octal o) (fraction d at) = refl
  one_meaning end w (fraction d at) (keyword {k = k} a) = absurd (true_and_false _ (decimal_begins w d) (keyword_begins (position k) w a))
  one_meaning end w (fraction d at) (name e no_word not_outside) = absurd (true_and_false _ (decimal_begins w d) e)
  one_meaning end w (fraction d at) (number n no_fraction kept) = absurd (no_fraction d at)
  one_meaning end w (fraction d at) (outside j b) = refl
  one_meaning end w (fraction d at) (octal o) = refl
  one_meaning end w (fraction d at) (fraction d' at') = refl

  -- a piece has one form

  comment_alone : {end : ℕ} {g : Form} → get_or text start 0 ≡ 47 → start + 2 ≤ end → IsPiece text start end g → Comment ≡ g
  comment_alone {end} b long q = ⊎_elim (λ l. sym l.1)
      (⊎_elim (λ l. sym l.1) (λ s. let e = slash_alone end s.0 b s.1 in absurd (omega arith))) (of_slash b q)

  pub one_form : {end : ℕ} {f g : Form} → IsPiece text start end f → IsPiece text start end g → f ≡ g
  one_form (blank inside e is) q = sym (of_blank is q).1
  one_form (line_comment c) q = comment_alone c.first c.body q
  one_form (block_comment c) q = comment_alone c.opens.0 (omega (arith, c.body)) q
  one_form {end} (word w is) q = one_meaning end (slice_range text start end) is (of_word (w.each start (omega arith) w.nonempty) q).1
  one_form (sign s) (blank inside e is) = absurd (true_and_false (is_blank (get_or text start 0)) is (sign_first _ _ _ _ s).0)
  one_form (sign s) (line_comment c) = sym (comment_alone c.first c.body (sign s))
  one_form (sign s) (block_comment c) = sym (comment_alone c.opens.0 (omega (arith, c.body)) (sign s))
  one_form (sign s) (word w is) = absurd (true_and_false (is_word_byte (get_or text start 0)) (w.each start (omega arith) w.nonempty) (sign_first _ _ _ _ s).1)
  one_form (sign {k = k} s) (sign {k = j} t) = ap (λ n. Token (Sign n)) (one_sign k j _ s.spelled t.spelled)

  pub piece_forward : {end : ℕ} {f : Form} → IsPiece text start end f → start < end
  piece_forward (blank inside e is) = omega arith
  piece_forward (line_comment c) = omega (arith, c.body)
  piece_forward (block_comment c) = omega (arith, c.body)
  piece_forward (word w is) = w.nonempty
  piece_forward (sign s) = s.nonempty

  pub piece_inside : {end : ℕ} {f : Form} → IsPiece text start end f → end ≤ length text
  piece_inside (blank inside e is) = omega arith
  piece_inside (line_comment c) = c.inside
  piece_inside (block_comment c) = c.inside
  piece_inside (word w is) = w.inside
  piece_inside (sign s) = s.inside

  -- what a word's bytes give is the longest piece, or a fault
  pub word_or_fault : is_word_byte (get_or text start 0) ≡ true → (found : Result Piece Place) →
      MatchResult found (IsWordPiece text start) (λ place. (place.start ≡ start) × IsMalformedNumber text place) →
      MatchResult found (IsLongestAt text start) (λ place. (place.start ≡ start) × IsFault text place)
  word_or_fault b (Ok piece) is = longest_word piece.end piece.form b is.whole is.is
  word_or_fault b (Err place) is = (is.0, inr (inr is.1))
