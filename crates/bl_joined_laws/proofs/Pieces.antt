-- A piece of a text is a piece where the text stands in another, and no longer one begins there.
use Rattle.std.proofs.Common.{◌≡◌, ◌≢◌, ℕ, ◌+◌, ◌-◌, ◌<◌, ◌≤◌, true, false, List, [], ◌∷◌, ◌++◌, ◌⊎◌, ⊎_elim, length, get_or, refl, ap, sym}
use Rattle.std.proofs.Common.{◌∙◌, subst, arith}
use Rattle.std.proofs.lemmas.Bool.Decides.{nat_tests}
use Rattle.std.proofs.Math.ListN.{get_or-eq_default}
use Rattle.std.proofs.str.Laws.{order}
use Rattle.std.specs.Prelude.{slice_get, slice_range, Some}
use Rattle.std.specs.Char.{is_ascii_digit}
use Rattle.bl_tree.proofs.Basics.{true_and_false}
use Rattle.bl_lex.specs.declared.piece.Form.{Form}
use Rattle.bl_lex.specs.declared.piece.Form.TheVariants.{Blank}
use Rattle.bl_lex.specs.Spelling.{signs, is_blank, is_word_byte}
use Rattle.bl_lex.specs.Pieces.{FractionAt, IsBlockComment, IsLineComment, IsPiece, IsSign, IsWord, OpensComment, WordIs}
use Rattle.bl_lex.specs.Pieces.WordIs.{keyword, name, number, outside, octal, fraction}
use Rattle.bl_lex.specs.Pieces.IsPiece.{blank, line_comment, block_comment, word, sign}
use Rattle.bl_lex.specs.Tokens.{IsLongest}
use Rattle.bl_lex.proofs.PieceLaws.{longest_blank, longest_block_comment, longest_line_comment, longest_word, of_other, of_slash}
use Rattle.bl_lex.proofs.Signs.{range_two, sign_ends, sign_first}
use Rattle.bl_lex.proofs.Tables.{is_two_bytes, two_bytes_known}
use Rattle.bl_joined_laws.proofs.Bytes.{byte, feed, long, range}
use Rattle.bl_lex.proofs.RuleLaws.{byte_inside}

-- no sign ends with a line feed
no_feed : (a : ℕ) → is_two_bytes a 10 ≡ true → ⊥
no_feed a two = grind (arith, nat_tests)

module _ (whole before text after : List ℕ) (is : whole ≡ before ++ (text ++ 10 ∷ after)) where
  n : ℕ
  n = length before

  at : (i j : ℕ) → j ≡ n + i → i < length text → get_or whole j 0 ≡ get_or text i 0
  unfolding n
  at i j where_is inside = byte whole before text after is i j where_is inside

  end_at : (j : ℕ) → j ≡ n + length text → get_or whole j 0 ≡ 10
  unfolding n
  end_at j where_is = feed whole before text after is j where_is

  room : n + length text < length whole
  unfolding n
  room = long whole before text after is

  same_range : (s e : ℕ) → s ≤ e → e ≤ length text → slice_range whole (n + s) (n + e) ≡ slice_range text s e
  unfolding n
  same_range s e forward inside = range whole before text after is s e forward inside

  -- ---- comments

  line_there : (s e : ℕ) → IsLineComment text s e → IsLineComment whole (n + s) (n + e)
  line_there s e c = record {
    first = at s (n + s) refl (omega (arith, c.body, c.inside)) ∙ c.first;
    second = at (s + 1) (n + s + 1) (omega arith) (omega (arith, c.body, c.inside)) ∙ c.second;
    body = omega (arith, c.body);
    inside = omega (arith, c.inside, room);
    one_line = λ i low high break. c.one_line (i - n) (omega (arith, low)) (omega (arith, low, high))
        (sym (at (i - n) i (omega (arith, low)) (omega (arith, low, high, c.inside))) ∙ break);
    stops = λ inside. ⊎_elim (λ less. at e (n + e) refl less ∙ c.stops less) (λ more. end_at (n + e) (omega (arith, c.inside))) (order e (length text));
  }

  -- a line comment that begins in the text ends in it
  line_ends : (s e : ℕ) → s < length text → IsLineComment whole (n + s) e → e ≤ n + length text
  line_ends s e inside c = ⊎_elim (λ less. absurd (c.one_line (n + length text) (omega arith) less (end_at (n + length text) refl))) (λ more. more)
      (order (n + length text) e)

  line_back : (s e : ℕ) → s < length text → IsLineComment whole (n + s) e → IsLineComment text s (e - n)
  line_back s e inside c = let ends = line_ends s e inside c in record {
    first = sym (at s (n + s) refl inside) ∙ c.first;
    second = sym (at (s + 1) (n + s + 1) (omega arith) (omega (arith, c.body))) ∙ c.second;
    body = omega (arith, c.body);
    inside = omega arith;
    one_line = λ i low high break. c.one_line (n + i) (omega arith) (omega arith) (at i (n + i) refl (omega arith) ∙ break);
    stops = λ less. sym (at (e - n) e (omega (arith, c.body)) less) ∙ c.stops (omega (arith, room, c.body));
  }

  block_there : (s e : ℕ) → IsBlockComment text s e → IsBlockComment whole (n + s) (n + e)
  block_there s e c = record {
    opens = (
      at s (n + s) refl (omega (arith, c.body, c.inside)) ∙ c.opens.0,
      at (s + 1) (n + s + 1) (omega arith) (omega (arith, c.body, c.inside)) ∙ c.opens.1,
    );
    body = omega (arith, c.body);
    inside = omega (arith, c.inside, room);
    closes = (
      at (e - 2) (n + e - 2) (omega (arith, c.body)) (omega (arith, c.body, c.inside)) ∙ c.closes.0,
      at (e - 2 + 1) (n + e - 2 + 1) (omega (arith, c.body)) (omega (arith, c.body, c.inside)) ∙ c.closes.1,
    );
    next = λ i low high closes. c.next (i - n) (omega (arith, low)) (omega (arith, low, high)) (
      sym (at (i - n) i (omega (arith, low)) (omega (arith, low, high, c.inside))) ∙ closes.0,
      sym (at (i - n + 1) (i + 1) (omega (arith, low)) (omega (arith, low, high, c.inside))) ∙ closes.1,
    );
  }

  -- ---- words

  word_there : (s e : ℕ) → IsWord text s e → IsWord whole (n + s) (n + e)
  word_there s e w = record {
    nonempty = omega (arith, w.nonempty);
    inside = omega (arith, w.inside, room);
    each = λ i low high. subst (λ b. is_word_byte b ≡ true) (sym (at (i - n) i (omega (arith, low)) (omega (arith, low, high, w.inside))))
        (w.each (i - n) (omega (arith, low)) (omega (arith, low, high)));
    stops = λ inside. ⊎_elim (λ less. subst (λ b. is_word_byte b ≡ false) (sym (at e (n + e) refl less)) (w.stops less))
        (λ more. subst (λ b. is_word_byte b ≡ false) (sym (end_at (n + e) (omega (arith, w.inside)))) refl) (order e (length text));
  }

  -- a fraction doesn't begin at the line feed, nor end with it
  fraction_back : (e : ℕ) → e ≤ length text → FractionAt whole (n + e) → FractionAt text e
  fraction_back e inside f = ⊎_elim
      (λ less. ⊎_elim
      (λ next. (sym (at e (n + e) refl less) ∙ f.0, subst (λ b. is_ascii_digit b ≡ true) (at (e + 1) (n + e + 1) (omega arith) next) f.1))
      (λ last. absurd (true_and_false false (subst (λ b. is_ascii_digit b ≡ true) (end_at (n + e + 1) (omega arith)) f.1) refl))
      (order (e + 1) (length text)))
      (λ more. absurd (no_point (sym (end_at (n + e) (omega arith)) ∙ f.0)))
      (order e (length text))
    where
      no_point : ◌≡◌ {A = ℕ} 10 46 → ⊥
      no_point same = omega arith

  fraction_there : (e : ℕ) → FractionAt text e → FractionAt whole (n + e)
  fraction_there e f =
      let first = byte_inside text e 46 f.0 (omega arith) in
      let second : e + 1 < length text = ⊎_elim (λ less. less)
      (λ more. absurd (true_and_false false (subst (λ b. is_ascii_digit b ≡ true) (get_or-eq_default text 0 more) f.1) refl)) (order (e + 1) (length text)) in
      (at e (n + e) refl first ∙ f.0, subst (λ b. is_ascii_digit b ≡ true) (sym (at (e + 1) (n + e + 1) (omega arith) second)) f.1)

  means_there : (e : ℕ) (w : List ℕ) {f : Form} → e ≤ length text → WordIs text e w f → WordIs whole (n + e) w f
  means_there e w inside (keyword k) = keyword k
  means_there e w inside (name d no_word not_outside) = name d no_word not_outside
  means_there e w inside (number is_number no_fraction kept) =
      number is_number (λ digits at_end. no_fraction digits (fraction_back e inside at_end)) kept
  means_there e w inside (outside k o) = outside k o
  means_there e w inside (octal o) = octal o
  means_there e w inside (fraction digits at_end) = fraction digits (fraction_there e at_end)

  -- ---- signs

  opens_back : (s : ℕ) → s < length text → OpensComment whole (n + s) → OpensComment text s
  opens_back s inside o = ⊎_elim
      (λ next. (sym (at s (n + s) refl inside) ∙ o.0, sym (at (s + 1) (n + s + 1) (omega arith) next) ∙ o.1))
      (λ last. absurd (no_star (sym (end_at (n + s + 1) (omega arith)) ∙ o.1)))
      (order (s + 1) (length text))
    where
      no_star : ◌≡◌ {A = ℕ} 10 42 → ⊥
      no_star same = omega arith

  opens_there : (s : ℕ) → OpensComment text s → OpensComment whole (n + s)
  opens_there s o =
      let first = byte_inside text s 47 o.0 (omega arith) in
      let second = byte_inside text (s + 1) 42 o.1 (omega arith) in
      (at s (n + s) refl first ∙ o.0, at (s + 1) (n + s + 1) (omega arith) second ∙ o.1)

  sign_there : (s e k : ℕ) → IsSign text s e k → IsSign whole (n + s) (n + e) k
  sign_there s e k t = record {
    nonempty = omega (arith, t.nonempty);
    inside = omega (arith, t.inside, room);
    spelled = t.spelled ∙ ap Some (sym (same_range s e (omega (arith, t.nonempty)) t.inside));
    no_comment = λ opens. t.no_comment (opens_back s (omega (arith, t.nonempty, t.inside)) opens);
  }

  -- a sign in the whole that begins in the text is one of the text
  sign_back : (s k : ℕ) → s + 2 ≤ length text → IsSign whole (n + s) (n + s + 2) k → IsSign text s (s + 2) k
  sign_back s k inside t = record {
    nonempty = omega arith;
    inside = inside;
    spelled = subst (λ e. slice_get signs k ≡ Some (slice_range whole (n + s) e)) (two_on) t.spelled
        ∙ ap Some (same_range s (s + 2) (omega arith) inside);
    no_comment = λ opens. t.no_comment (opens_there s opens);
  }
    where
      two_on : n + s + 2 ≡ n + (s + 2)
      two_on = omega arith

  no_feed_sign : (s k : ℕ) → s < length text → length text ≤ s + 1 → IsSign whole (n + s) (n + s + 2) k → ⊥
  no_feed_sign s k inside last t =
      let second : n + s + 1 < length whole = omega (arith, t.inside) in
      let spelled : slice_get signs k ≡ Some (get_or whole (n + s) 0 ∷ get_or whole (n + s + 1) 0 ∷ []) =
      t.spelled ∙ ap Some (range_two whole (n + s) second) in
      no_feed (get_or whole (n + s) 0) (subst (λ b. is_two_bytes (get_or whole (n + s) 0) b ≡ true) (end_at (n + s + 1) (omega arith))
      (two_bytes_known (get_or whole (n + s) 0) (get_or whole (n + s + 1) 0) k spelled))

  -- the text's sign is the longest piece that begins here
  module _ (s e k : ℕ) (here : IsSign text s e k) (longest : (end : ℕ) (form : Form) → IsPiece text s end form → end ≤ e) where
    starts_inside : s < length text
    starts_inside = omega (arith, here.nonempty, here.inside)

    no_longer_sign : (end j : ℕ) → IsSign whole (n + s) end j → end ≤ n + e
    no_longer_sign end j t = ⊎_elim (λ one. omega (arith, one, here.nonempty))
        (λ two. let at_two = subst (λ x. IsSign whole (n + s) x j) two t in ⊎_elim
        (λ less. let fits = longest (s + 2) _ (sign (sign_back s j (omega (arith, less)) at_two)) in omega (arith, two, fits))
        (λ last. absurd (no_feed_sign s j starts_inside last at_two)) (order (s + 1) (length text)))
        (sign_ends whole (n + s) end j t)

    no_longer_slash : (end : ℕ) (form : Form) → get_or whole (n + s) 0 ≡ 47 → IsPiece whole (n + s) end form → end ≤ n + e
    no_longer_slash end form slash p = ⊎_elim
        (λ line. let fits = longest (end - n) _ (line_comment (line_back s end starts_inside line.0)) in omega arith)
        (⊎_elim (λ block. absurd (here.no_comment (opens_back s starts_inside block.0.opens))) (λ t. no_longer_sign end t.0 t.1))
        (of_slash whole (n + s) slash p)

    no_longer : (end : ℕ) (form : Form) → IsPiece whole (n + s) end form → end ≤ n + e
    no_longer end form p = by_first (get_or whole (n + s) 0) refl
      where
        other : get_or whole (n + s) 0 ≢ 47 → end ≤ n + e
        other no_slash =
            let first = sign_first whole (n + s) (n + e) k (sign_there s e k here) in
            let t = of_other whole (n + s) first.0 first.1 no_slash p in no_longer_sign end t.0 t.1

        by_first : (b : ℕ) → get_or whole (n + s) 0 ≡ b → end ≤ n + e
        by_first b same = ⊎_elim (λ less. other (λ slash. omega (arith, slash, same, less)))
            (λ more. ⊎_elim (λ greater. other (λ slash. omega (arith, slash, same, greater)))
            (λ no_more. no_longer_slash end form (omega (arith, same, more, no_more)) p) (order 47 b)) (order b 47)

  -- ---- pieces

  lift : (s e : ℕ) {f : Form} → IsPiece text s e f → ((end : ℕ) (form : Form) → IsPiece text s end form → end ≤ e) →
      IsLongest whole (record { start = n + s; end = n + e; form = f })
  lift s e (blank inside next is_blank_here) longest =
      let one_on : n + s + 1 ≡ n + e = omega arith in
      subst (λ x. IsLongest whole (record { start = n + s; end = x; form = Blank })) one_on
      (longest_blank whole (n + s) (omega (arith, room)) (subst (λ b. is_blank b ≡ true) (sym (at s (n + s) refl inside)) is_blank_here))
  lift s e (line_comment c) longest = longest_line_comment whole (n + s) (n + e) (line_there s e c)
  lift s e (block_comment c) longest = longest_block_comment whole (n + s) (n + e) (block_there s e c)
  lift s e (word {form = f} w means) longest =
      longest_word whole (n + s) (n + e) f ((word_there s e w).each (n + s) (omega arith) (omega (arith, w.nonempty))) (word_there s e w)
      (subst (λ (v : List ℕ). WordIs whole (n + e) v f) (sym (same_range s e (omega (arith, w.nonempty)) w.inside))
      (means_there e (slice_range text s e) w.inside means))
  lift s e (sign {k = k} t) longest = record { piece = sign (sign_there s e k t); longest = no_longer s e k t longest }

  pub longest_there : (s e : ℕ) (f : Form) → IsLongest text (record { start = s; end = e; form = f }) →
      IsLongest whole (record { start = length before + s; end = length before + e; form = f })
  unfolding n
  longest_there s e f l = lift s e l.piece l.longest

  -- the line feed behind the text
  pub longest_feed : IsLongest whole (record { start = length before + length text; end = length before + length text + 1; form = Blank })
  longest_feed = longest_blank whole (length before + length text) (long whole before text after is)
      (subst (λ b. is_blank b ≡ true) (sym (feed whole before text after is (length before + length text) refl)) refl)
