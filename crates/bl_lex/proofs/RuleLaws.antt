-- What covers a text is one list of parts; so each of the first three rules fails at one place, and first where it is found.
use Rattle.std.proofs.Common.{◌≡◌, ◌≢◌, ℕ, zero, suc, ◌+◌, ◌-◌, ◌<◌, ◌≤◌, Bool, true, false, cond, not, List, [], ◌∷◌, ◌++◌, ◌⊎◌, inl, inr, ⊎_elim, length}
use Rattle.std.proofs.Common.{get_or, refl, ap, sym, ◌∙◌, subst, arith, add-one}
use Rattle.std.proofs.lemmas.List.Elements.{All-head, All-tail}
use Rattle.std.proofs.Math.ListN.{get_or-eq_default}
use Rattle.std.proofs.str.Laws.{order}
use Rattle.std.specs.Prelude.{Option, Some, None, option_map, slice_range, All}
use Rattle.std.specs.List.{cons_option}
use Rattle.bl_tree.proofs.Basics.{true_and_false}
use Rattle.bl_tree.specs.declared.token.TokenKind.{TokenKind}
use Rattle.bl_tree.specs.declared.place.Place.{Place}
use Rattle.bl_tree.specs.declared.rule.Rule.{Rule}
use Rattle.bl_tree.specs.declared.rule.Rule.TheVariants as rule
use Rattle.bl_tree.specs.declared.token.Token.{Token}
use Rattle.bl_tree.specs.Rules.{AreNoLater, number_of}
use Rattle.bl_lex.specs.declared.piece.Form.{Form}
use Rattle.bl_lex.specs.declared.piece.Form.TheVariants.{Outside}
use Rattle.bl_lex.specs.Spelling.{is_word_byte}
use Rattle.bl_lex.specs.Spelling.IsNumber.{decimal}
use Rattle.bl_lex.specs.Pieces.{WordIs, IsPiece, NoPieceAt, kind_of, is_between}
use Rattle.bl_lex.specs.Pieces.WordIs.{keyword, name, number, outside, octal, fraction}
use Rattle.bl_lex.specs.Tokens.{LexedPiece, place_of, IsLongest, Covers, line_at, tokens_of, without_between, Lexes}
use Rattle.bl_lex.specs.Rules.{FailsSize, FailsLex, FailsProfile, IsStrayByte, IsUnclosedComment, IsMalformedNumber, IsFault, Fails, FailsFirst, Passes}
use Rattle.bl_lex.specs.Rules.IsLeftOut.{outside as left_outside}
use Rattle.bl_lex.specs.inner.Walk.{NoneLeftOut, IsFirstLeftOut}
use Rattle.bl_lex.proofs.WordLaws.{keyword_begins, outside_begins}
use Rattle.bl_lex.proofs.PieceLaws.{one_word, one_form, of_slash, of_word, piece_forward, piece_inside}

same_part : (p q : LexedPiece) → p.start ≡ q.start → p.end ≡ q.end → p.form ≡ q.form → p ≡ q
same_part p q s e f = λ i. record { start = s i; end = e i; form = f i }

-- the longest piece at a place is one
pub one_longest : (text : List ℕ) (p q : LexedPiece) → p.start ≡ q.start → IsLongest text p → IsLongest text q → p ≡ q
one_longest text p q at a b =
    let q_here : IsPiece text p.start q.end q.form = subst (λ (s : ℕ). IsPiece text s q.end q.form) (sym at) b.piece in
    let p_there : IsPiece text q.start p.end p.form = subst (λ (s : ℕ). IsPiece text s p.end p.form) at a.piece in
    let more = a.longest q.end q.form q_here in
    let less = b.longest p.end p.form p_there in
    let ends : p.end ≡ q.end = omega arith in
    same_part p q at ends (one_form text p.start a.piece (subst (λ (e : ℕ). IsPiece text p.start e q.form) (sym ends) q_here))

-- two covers from one place by parts of some forms, to where nothing of these forms begins, are one
pub covers_are_one : (P : Form → Type 0) (text : List ℕ) (start : ℕ) (ps qs : List LexedPiece) (a b : ℕ) → Covers text start ps a → Covers text start qs b →
    All (λ part. P part.form) ps → All (λ part. P part.form) qs →
    ((end : ℕ) (form : Form) → IsPiece text a end form → ¬ P form) → ((end : ℕ) (form : Form) → IsPiece text b end form → ¬ P form) →
    (ps ≡ qs) × (a ≡ b)
covers_are_one P text start [] [] a b p q all_p all_q none_a none_b = (refl, sym p ∙ q)
covers_are_one P text start [] (q ∷ qs) a b p c all_p all_q none_a none_b =
    absurd (none_a q.end q.form (subst (λ (s : ℕ). IsPiece text s q.end q.form) (c.0 ∙ p) c.1.piece) (All-head (λ part. P part.form) q qs all_q))
covers_are_one P text start (p ∷ ps) [] a b c q all_p all_q none_a none_b =
    absurd (none_b p.end p.form (subst (λ (s : ℕ). IsPiece text s p.end p.form) (c.0 ∙ q) c.1.piece) (All-head (λ part. P part.form) p ps all_p))
covers_are_one P text start (p ∷ ps) (q ∷ qs) a b c d all_p all_q none_a none_b =
    let first = one_longest text p q (c.0 ∙ sym d.0) c.1 d.1 in
    let rest = covers_are_one P text p.end ps qs a b c.2 (subst (λ (e : ℕ). Covers text e qs b) (ap (λ (r : LexedPiece). r.end) (sym first)) d.2)
    (All-tail (λ part. P part.form) p ps all_p) (All-tail (λ part. P part.form) q qs all_q) none_a none_b in
    ((λ i. first i ∷ rest.0 i), rest.1)

-- two covers from one place, to where nothing begins, are one
one_cover : (text : List ℕ) (start : ℕ) (ps qs : List LexedPiece) (a b : ℕ) → Covers text start ps a → Covers text start qs b →
    NoPieceAt text a → NoPieceAt text b → (ps ≡ qs) × (a ≡ b)
one_cover text start ps qs a b p q none_a none_b =
    covers_are_one (λ form. Unit {0}) text start ps qs a b p q (λ k d inside. tt) (λ k d inside. tt)
    (λ end form piece any. none_a end form piece) (λ end form piece any. none_b end form piece)

pub nothing_at_end : (text : List ℕ) → NoPieceAt text (length text)
nothing_at_end text end form p = let a = piece_forward text (length text) p in let b = piece_inside text (length text) p in omega arith

-- a text has one list of tokens
pub one_list : (text : List ℕ) (xs ys : List Token) → Lexes text xs → Lexes text ys → xs ≡ ys
one_list text xs ys a b =
    let parts = (one_cover text 0 a.parts b.parts (length text) (length text) a.covers b.covers (nothing_at_end text) (nothing_at_end text)).0 in
    a.are_tokens ∙ ap (λ ps. tokens_of text ps) parts ∙ sym b.are_tokens

-- faults

word_begins : (text : List ℕ) (place : Place) → IsMalformedNumber text place → is_word_byte (get_or text place.start 0) ≡ true
word_begins text place bad = bad.whole_word.each place.start (omega arith) bad.whole_word.nonempty

pub fault_begins_nothing : (text : List ℕ) (place : Place) → IsFault text place → NoPieceAt text place.start
fault_begins_nothing text place fault end form p = ⊎_elim
    (λ stray. stray.begins_nothing end form p)
    (⊎_elim
    (λ unclosed. ⊎_elim
    (λ l. let a = l.0.second in let b = unclosed.opens.1 in omega arith)
    (⊎_elim (λ l. unclosed.never_closes (end - 2) (omega (arith, l.0.body)) l.0.closes) (λ s. s.1.no_comment unclosed.opens))
    (of_slash text place.start unclosed.opens.0 p))
    (λ bad.
    let w = of_word text place.start (word_begins text place bad) p in
    no_meaning bad (one_word text place.start end place.end w.0 bad.whole_word) w.1))
    fault
  where
    bad_word : {form : Form} → IsMalformedNumber text place → WordIs text end (slice_range text place.start place.end) form → ⊥
    bad_word bad (keyword k) = true_and_false _ bad.digit (keyword_begins _ _ k)
    bad_word bad (name d no_word not_outside) = true_and_false _ bad.digit d
    bad_word bad (number n no_fraction kept) = bad.no_number _ n
    bad_word bad (outside k o) = true_and_false _ bad.digit (outside_begins k _ o)
    bad_word bad (octal o) = bad.not_octal o
    bad_word bad (fraction d at) = bad.no_number _ (decimal d)

    no_meaning : IsMalformedNumber text place → end ≡ place.end → WordIs text end (slice_range text place.start end) form → ⊥
    no_meaning bad same w = bad_word bad (subst (λ (e : ℕ). WordIs text end (slice_range text place.start e) form) same w)

-- a byte other than 0 stands inside the text
pub byte_inside : (text : List ℕ) (at byte : ℕ) → get_or text at 0 ≡ byte → 0 < byte → at < length text
byte_inside text at byte is some = ⊎_elim (λ less. less) (λ more. let past = get_or-eq_default text 0 more in absurd (omega arith)) (order at (length text))

pub fault_inside : (text : List ℕ) (place : Place) → IsFault text place → place.start < length text
fault_inside text place fault = ⊎_elim (λ stray. stray.inside)
    (⊎_elim (λ unclosed. byte_inside text place.start 47 unclosed.opens.0 (omega arith))
    (λ bad. omega (arith, bad.whole_word.nonempty, bad.whole_word.inside))) fault

abbrev here : ℕ → ℕ → Place
here start end = record { start = start; end = end }

slash_in_no_word : (b : ℕ) → b ≡ 47 → is_word_byte b ≡ false
slash_in_no_word b is = rw is refl

module _ (text : List ℕ) (start : ℕ) where
  stray_end : (e f : ℕ) → IsStrayByte text (here start e) → IsFault text (here start f) → e ≡ f
  stray_end e f a b = ⊎_elim (λ stray. a.one_byte ∙ sym stray.one_byte)
      (⊎_elim (λ unclosed. absurd (a.no_comment unclosed.opens)) (λ bad. absurd (true_and_false _ (word_begins text (here start f) bad) a.no_word))) b

  unclosed_end : (e f : ℕ) → IsUnclosedComment text (here start e) → IsFault text (here start f) → e ≡ f
  unclosed_end e f a b = ⊎_elim (λ stray. absurd (stray.no_comment a.opens))
      (⊎_elim (λ unclosed. a.two_bytes ∙ sym unclosed.two_bytes)
      (λ bad. absurd (true_and_false _ (word_begins text (here start f) bad) (slash_in_no_word _ a.opens.0)))) b

  malformed_end : (e f : ℕ) → IsMalformedNumber text (here start e) → IsFault text (here start f) → e ≡ f
  malformed_end e f a b = ⊎_elim (λ stray. absurd (true_and_false _ (word_begins text (here start e) a) stray.no_word))
      (⊎_elim (λ unclosed. absurd (true_and_false _ (word_begins text (here start e) a) (slash_in_no_word _ unclosed.opens.0)))
      (λ bad. one_word text start e f a.whole_word bad.whole_word)) b

-- a fault ends at one place
fault_end : (text : List ℕ) (p q : Place) → IsFault text p → IsFault text q → p.start ≡ q.start → p.end ≡ q.end
fault_end text p q a b at =
    let b_here : IsFault text (here p.start q.end) = subst (λ (s : ℕ). IsFault text (here s q.end)) (sym at) b in
    ⊎_elim (λ x. stray_end text p.start p.end q.end x b_here)
    (⊎_elim (λ x. unclosed_end text p.start p.end q.end x b_here) (λ x. malformed_end text p.start p.end q.end x b_here)) a

no_size : (text : List ℕ) → length text ≤ 1048576 → (place : Place) → ¬ FailsSize text place
no_size text short place is = let long = is.too_long in omega arith

-- one place is no later than itself
no_later : (p q : Place) (further : List Place) → p.start ≡ q.start → p.end ≡ q.end → AreNoLater (p ∷ []) (q ∷ further)
no_later p q further s e = inr ((λ i. record { start = s i; end = e i }), tt)

-- Size

pub first_size : (text : List ℕ) (place : Place) → FailsSize text place → FailsFirst text rule.Size place []
first_size text place fails = record { fails = (fails, refl); least_rule = least; least_places = places }
  where
    least : (other : Rule) (elsewhere : Place) (further : List Place) → Fails text other elsewhere further → 1 ≤ number_of other
    least rule.Size elsewhere further f = omega arith
    least rule.Lex elsewhere further f = omega arith
    least rule.Profile elsewhere further f = omega arith
    least _ elsewhere further f = absurd f

    places : (elsewhere : Place) (further : List Place) → Fails text rule.Size elsewhere further → AreNoLater (place ∷ []) (elsewhere ∷ further)
    places elsewhere further f = inr (fails.at ∙ sym f.0.at, tt)

-- Lex

pub first_lex : (text : List ℕ) (parts : List LexedPiece) (place : Place) → length text ≤ 1048576 → Covers text 0 parts place.start → IsFault text place
    → FailsFirst text rule.Lex place []
first_lex text parts place short covers fault = record {
  fails = (record { parts = parts; covers = covers; fault = fault }, refl);
  least_rule = least;
  least_places = places;
}
  where
    least : (other : Rule) (elsewhere : Place) (further : List Place) → Fails text other elsewhere further → 2 ≤ number_of other
    least rule.Size elsewhere further f = absurd (no_size text short elsewhere f.0)
    least rule.Lex elsewhere further f = omega arith
    least rule.Profile elsewhere further f = omega arith
    least _ elsewhere further f = absurd f

    places : (elsewhere : Place) (further : List Place) → Fails text rule.Lex elsewhere further → AreNoLater (place ∷ []) (elsewhere ∷ further)
    places elsewhere further f =
        let start = (one_cover text 0 parts f.0.parts place.start elsewhere.start covers f.0.covers
        (fault_begins_nothing text place fault) (fault_begins_nothing text elsewhere f.0.fault)).1 in
        no_later place elsewhere further start (fault_end text place elsewhere fault f.0.fault start)

-- a text that parts cover doesn't fail rule Lex
no_lex : (text : List ℕ) (parts : List LexedPiece) → Covers text 0 parts (length text) → (place : Place) → ¬ FailsLex text place
no_lex text parts covers place fails =
    let ends = (one_cover text 0 parts fails.parts (length text) place.start covers fails.covers (nothing_at_end text)
    (fault_begins_nothing text place fails.fault)).1 in
    let inside = fault_inside text place fails.fault in omega arith

-- Profile

-- of two elements of a list, they are one, or one stands before the other
which : {X : Type 0} (xs ys : List X) (x y : X) (us vs : List X) → xs ++ x ∷ us ≡ ys ++ y ∷ vs →
    ((xs ≡ ys) × (x ≡ y)) ⊎ (((rest : List X) × (xs ≡ ys ++ y ∷ rest)) ⊎ ((rest : List X) × (us ≡ rest ++ y ∷ vs)))
which [] [] x y us vs e = inl (refl, cc)
which [] (b ∷ ys) x y us vs e = inr (inr (ys, cc))
which (a ∷ xs) [] x y us vs e = inr (inl (xs, (let h : a ≡ y = cc in cc)))
which (a ∷ xs) (b ∷ ys) x y us vs e =
    let first : a ≡ b = cc in
    let rest : xs ++ x ∷ us ≡ ys ++ y ∷ vs = cc in
    ⊎_elim (λ s. inl ((λ i. first i ∷ s.0 i), s.1)) (⊎_elim (λ s. inr (inl (s.0, (λ i. first i ∷ s.1 i)))) (λ s. inr (inr s)))
    (which xs ys x y us vs rest)

-- the parts rise, from a place on
Ascends : ℕ → List LexedPiece → Type 0
Ascends low [] = Unit {0}
Ascends low (p ∷ ps) = (low ≤ p.start) × (p.start < p.end) × Ascends p.end ps

covers_ascend : (text : List ℕ) (start : ℕ) (parts : List LexedPiece) (end : ℕ) → Covers text start parts end → Ascends start parts
unfolding Ascends
covers_ascend text start [] end c = tt
covers_ascend text start (p ∷ ps) end c = (omega (arith, c.0), piece_forward text p.start c.1.piece, covers_ascend text p.end ps end c.2)

ascends_from : (low more : ℕ) (parts : List LexedPiece) → low ≤ more → Ascends more parts → Ascends low parts
unfolding Ascends
ascends_from low more [] less a = tt
ascends_from low more (p ∷ ps) less a = (omega (arith, a.0), a.1, a.2)

tokens_ascend : (low : ℕ) (parts : List LexedPiece) → Ascends low parts → Ascends low (without_between parts)
unfolding Ascends
tokens_ascend low [] a = tt
tokens_ascend low (p ∷ ps) a = by_form (not (is_between p.form)) (tokens_ascend p.end ps a.2)
  where
    by_form : (b : Bool) → Ascends p.end (without_between ps) → Ascends low (cond b (p ∷ without_between ps) (without_between ps))
    by_form true rest = (a.0, a.1, rest)
    by_form false rest = ascends_from low p.end (without_between ps) (omega (arith, a.0, a.1)) rest

low_before : (low : ℕ) (xs : List LexedPiece) (y : LexedPiece) (vs : List LexedPiece) → Ascends low (xs ++ y ∷ vs) → low ≤ y.start
unfolding Ascends
low_before low [] y vs a = a.0
low_before low (x ∷ xs) y vs a = let h = low_before x.end xs y vs a.2 in omega (arith, a.0, a.1)

-- of two parts that rise, the first begins first
begins_first : (low : ℕ) (xs : List LexedPiece) (x : LexedPiece) (rest : List LexedPiece) (y : LexedPiece) (vs : List LexedPiece) →
    Ascends low (xs ++ x ∷ (rest ++ y ∷ vs)) → x.start < y.start
unfolding Ascends
begins_first low [] x rest y vs a = let h = low_before x.end rest y vs a.2 in omega (arith, a.1)
begins_first low (z ∷ zs) x rest y vs a = begins_first z.end zs x rest y vs a.2

module _ (text : List ℕ) (short : length text ≤ 1048576) (parts : List LexedPiece) (covers : Covers text 0 parts (length text)) where
  -- the tokens that a failing place of rule Profile has are those of the parts
  same_tokens : (place : Place) (fails : FailsProfile text place) → without_between parts ≡ fails.before ++ fails.part ∷ fails.after
  same_tokens place fails = ap without_between (one_cover text 0 parts fails.parts (length text) (length text) covers fails.covers
      (nothing_at_end text) (nothing_at_end text)).0 ∙ fails.stands

  no_earlier : (place elsewhere : Place) (further : List Place) → IsFirstLeftOut text (without_between parts) place → FailsProfile text elsewhere
      → AreNoLater (place ∷ []) (elsewhere ∷ further)
  no_earlier place elsewhere further first fails = ⊎_elim
      (λ same. no_later place elsewhere further
      (ap (λ (p : Place). p.start) first.at ∙ ap (λ (p : LexedPiece). p.start) same.1 ∙ sym (ap (λ (p : Place). p.start) fails.at))
      (ap (λ (p : Place). p.end) first.at ∙ ap (λ (p : LexedPiece). p.end) same.1 ∙ sym (ap (λ (p : Place). p.end) fails.at)))
      (⊎_elim
      (λ earlier. absurd (first.first fails.before fails.part earlier.0 earlier.1 fails.left_out))
      (λ later.
      let stands : without_between parts ≡ first.before ++ first.part ∷ (later.0 ++ fails.part ∷ fails.after) =
      first.stands ∙ ap (λ l. first.before ++ first.part ∷ l) later.1 in
      let less = begins_first 0 first.before first.part later.0 fails.part fails.after
      (subst (Ascends 0) stands (tokens_ascend 0 parts (covers_ascend text 0 parts (length text) covers))) in
      let here = ap (λ (p : Place). p.start) first.at in
      let there = ap (λ (p : Place). p.start) fails.at in
      inl (inl (omega arith))))
      (which first.before fails.before first.part fails.part first.after fails.after (sym first.stands ∙ same_tokens elsewhere fails))

  pub first_profile : (place : Place) → IsFirstLeftOut text (without_between parts) place → FailsFirst text rule.Profile place []
  first_profile place first = record {
    fails = (
      record {
        parts = parts;
        covers = covers;
        before = first.before;
        part = first.part;
        after = first.after;
        stands = first.stands;
        left_out = first.left_out;
        at = first.at;
      },
      refl,
    );
    least_rule = least;
    least_places = λ elsewhere further f. no_earlier place elsewhere further first f.0;
  }
    where
      least : (other : Rule) (elsewhere : Place) (further : List Place) → Fails text other elsewhere further → 3 ≤ number_of other
      least rule.Size elsewhere further f = absurd (no_size text short elsewhere f.0)
      least rule.Lex elsewhere further f = absurd (no_lex text parts covers elsewhere f.0)
      least rule.Profile elsewhere further f = omega arith
      least _ elsewhere further f = absurd f

  pub passes : NoneLeftOut text (without_between parts) → Passes text
  passes none rule.Size place also f = no_size text short place f.0
  passes none rule.Lex place also f = no_lex text parts covers place f.0
  passes none rule.Profile place also f = none f.0.before f.0.part f.0.after (same_tokens place f.0) f.0.left_out
  passes none _ place also f = f

-- a part that isn't white space or a comment stands among the tokens
stands_in : (parts : List LexedPiece) (k : ℕ) (d : LexedPiece) → k < length parts → is_between (get_or parts k d).form ≡ false →
    (before : List LexedPiece) × ((after : List LexedPiece) × (without_between parts ≡ before ++ get_or parts k d ∷ after))
stands_in [] k d inside token = absurd (omega arith)
stands_in (p ∷ ps) zero d inside token = ([], (without_between ps, rw token refl))
stands_in (p ∷ ps) (suc k) d inside token = by_form (not (is_between p.form)) (stands_in ps k d (omega arith) token)
  where
    by_form : (b : Bool) → ((before : List LexedPiece) × ((after : List LexedPiece) × (without_between ps ≡ before ++ get_or ps k d ∷ after))) →
        (before : List LexedPiece) × ((after : List LexedPiece) × (cond b (p ∷ without_between ps) (without_between ps) ≡ before ++ get_or ps k d ∷ after))
    by_form true h = (p ∷ h.0, (h.1.0, ap (λ l. p ∷ l) h.1.1))
    by_form false h = h

pub each_has_a_kind : (text : List ℕ) (parts : List LexedPiece) → NoneLeftOut text (without_between parts) → All (λ part. part.form ≢ Outside) parts
each_has_a_kind text parts none k d inside is =
    let h = stands_in parts k d inside (ap is_between is) in
    none h.0 (get_or parts k d) h.1.0 h.1.1 (left_outside is)

-- tokens that stand one after the other in a text of this length
ArePlaced : ℕ → ℕ → List Token → Type 0
ArePlaced size low [] = Unit {0}
ArePlaced size low (t ∷ ts) = (low ≤ t.place.start) × (t.place.start < t.place.end) × (t.place.end ≤ size) × ArePlaced size t.place.end ts

placed_from : (size low more : ℕ) (ts : List Token) → low ≤ more → ArePlaced size more ts → ArePlaced size low ts
unfolding ArePlaced
placed_from size low more [] less a = tt
placed_from size low more (t ∷ ts) less a = (omega (arith, a.0), a.1, a.2, a.3)

pub covers_forward : (text : List ℕ) (start : ℕ) (parts : List LexedPiece) (end : ℕ) → Covers text start parts end → start ≤ end
covers_forward text start [] end c = omega (arith, c)
covers_forward text start (p ∷ ps) end c =
    let a = piece_forward text p.start c.1.piece in let b = covers_forward text p.end ps end c.2 in omega (arith, c.0)

tokens_placed : (text : List ℕ) (start : ℕ) (parts : List LexedPiece) (end : ℕ) → Covers text start parts end →
    ArePlaced end start (tokens_of text parts)
unfolding ArePlaced
tokens_placed text start [] end c = tt
tokens_placed text start (p ∷ ps) end c = by_kind (kind_of p.form) (tokens_placed text p.end ps end c.2)
  where
    by_kind : (kind : Option TokenKind) → ArePlaced end p.end (tokens_of text ps)
        → ArePlaced end start (cons_option (option_map
        (λ k. record { kind = k; place = place_of p; line = line_at text p.start }) kind) (tokens_of text ps))
    by_kind (Some kind) rest = (omega (arith, c.0), piece_forward text p.start c.1.piece, covers_forward text p.end ps end c.2, rest)
    by_kind None rest = let forward = piece_forward text p.start c.1.piece in
        placed_from end start p.end (tokens_of text ps) (omega (arith, c.0)) rest

placed_at : (size low : ℕ) (ts : List Token) (k : ℕ) (d : Token) → ArePlaced size low ts → k < length ts →
    (low ≤ (get_or ts k d).place.start) × ((get_or ts k d).place.start < (get_or ts k d).place.end) × ((get_or ts k d).place.end ≤ size)
unfolding ArePlaced
placed_at size low [] k d a inside = absurd (omega arith)
placed_at size low (t ∷ ts) zero d a inside = (a.0, a.1, a.2)
placed_at size low (t ∷ ts) (suc k) d a inside = let h = placed_at size t.place.end ts k d a.3 (omega arith) in (omega (arith, h.0, a.0, a.1), h.1, h.2)

placed_in_order : (size low : ℕ) (ts : List Token) (k : ℕ) (d : Token) → ArePlaced size low ts → suc k < length ts →
    (get_or ts k d).place.end ≤ (get_or ts (suc k) d).place.start
unfolding ArePlaced
placed_in_order size low [] k d a inside = absurd (omega arith)
placed_in_order size low (t ∷ ts) zero d a inside = (placed_at size t.place.end ts zero d a.3 (omega arith)).0
placed_in_order size low (t ∷ ts) (suc k) d a inside = placed_in_order size t.place.end ts k d a.3 (omega arith)

module _ (text : List ℕ) (parts : List LexedPiece) (end : ℕ) (covers : Covers text 0 parts end) (tokens : List Token)
    (are : tokens ≡ tokens_of text parts) where
  parts_placed : ArePlaced end 0 tokens
  parts_placed = rw are (tokens_placed text 0 parts end covers)

  pub placed_inside : (k : ℕ) (d : Token) → k < length tokens →
      ((get_or tokens k d).place.start < (get_or tokens k d).place.end) × ((get_or tokens k d).place.end ≤ end)
  placed_inside k d inside = let h = placed_at end 0 tokens k d parts_placed inside in (h.1, h.2)

  pub placed_one_by_one : (k : ℕ) (d : Token) → k + 1 < length tokens → (get_or tokens k d).place.end ≤ (get_or tokens (k + 1) d).place.start
  placed_one_by_one k d inside = rw add-one (placed_in_order end 0 tokens k d parts_placed (omega arith))

pub tokens_inside : (text : List ℕ) (tokens : List Token) → Lexes text tokens → (k : ℕ) (d : Token) → k < length tokens →
    ((get_or tokens k d).place.start < (get_or tokens k d).place.end) × ((get_or tokens k d).place.end ≤ length text)
tokens_inside text tokens is = placed_inside text is.parts (length text) is.covers tokens is.are_tokens

pub tokens_in_order : (text : List ℕ) (tokens : List Token) → Lexes text tokens → (k : ℕ) (d : Token) → k + 1 < length tokens →
    (get_or tokens k d).place.end ≤ (get_or tokens (k + 1) d).place.start
tokens_in_order text tokens is = placed_one_by_one text is.parts (length text) is.covers tokens is.are_tokens
