-- One part more, in the walk over a text.
use Rattle.std.proofs.Common.{◌≡◌, ◌≢◌, ℕ, ◌+◌, ◌-◌, ◌≤◌, Bool, true, false, List, [], ◌∷◌, ◌++◌, inl, inr, ⊎_elim, take, refl, ap, sym, ◌∙◌, subst, arith}
use Rattle.std.proofs.Common.{append_assoc, take-add}
use Rattle.std.proofs.lemmas.List.{append-nil}
use Rattle.std.proofs.lemmas.List.Sums.{sum_by-append}
use Rattle.std.proofs.lemmas.List.Elements.{filter-append, filter_map-append}
use Rattle.std.specs.Prelude.{Option, Some, None, slice_range, count_by, ◌==◌, IsTrue, ◌↔◌, option_to_list}
use Rattle.std.specs.List.{cons_option}
use Rattle.bl_tree.specs.declared.place.Place.{Place}
use Rattle.bl_tree.specs.declared.token.TokenKind.TheVariants.{Sign}
use Rattle.bl_lex.specs.declared.piece.Form.{Form}
use Rattle.bl_lex.specs.declared.piece.Form.TheVariants.{Blank, Comment, Token, Outside}
use Rattle.bl_lex.specs.declared.scan.Before.{Before}
use Rattle.bl_lex.specs.declared.scan.Before.TheVariants.{Other, At, AtBracket}
use Rattle.bl_lex.specs.declared.scan.Scan.{Scan}
use Rattle.bl_lex.specs.Pieces.{is_between, line_feed}
use Rattle.bl_lex.specs.Tokens.{LexedPiece, place_of, IsLongest, Covers, line_at, token_of, tokens_of, without_between}
use Rattle.bl_lex.specs.Rules.{IsLeftOut}
use Rattle.bl_lex.specs.Rules.IsLeftOut.{outside, open_brace, close_brace, attribute}
use Rattle.bl_lex.specs.inner.Walk.{EndsAt, EndsAtBracket, IsBefore, NextBefore, IsLeftOutAfter, NoneLeftOut, IsFirstLeftOut, IsLeftOutPlace, IsScanned}
use Rattle.bl_lex.specs.inner.Walk.{earlier, token_with}
use Rattle.bl_lex.proofs.Ends.{never_empty, snoc_parts, where_in}
use Rattle.bl_lex.proofs.PieceLaws.{piece_forward}

-- how the tokens end

-- the last token is `@` if the tokens end so
last_at : (tokens : List LexedPiece) (part : LexedPiece) → EndsAt (tokens ++ part ∷ []) → part.form ≡ Token (Sign 25)
last_at tokens part ends = let e = (snoc_parts tokens ends.front part ends.at ends.stands).1 in ap (λ (p : LexedPiece). p.form) e ∙ ends.is_at

last_two : (tokens : List LexedPiece) (part : LexedPiece) → EndsAtBracket (tokens ++ part ∷ []) → EndsAt tokens × (part.form ≡ Token (Sign 2))
last_two tokens part ends =
    let e = snoc_parts tokens (ends.front ++ ends.at ∷ []) part ends.bracket
    (ends.stands ∙ sym (append_assoc ends.front (ends.at ∷ []) (ends.bracket ∷ []))) in
    (record { front = ends.front; at = ends.at; stands = e.0; is_at = ends.is_at }, ap (λ (p : LexedPiece). p.form) e.1 ∙ ends.is_bracket)

at_no_bracket : ◌≡◌ {A = Form} (Token (Sign 25)) (Token (Sign 2)) → ⊥
at_no_bracket e = let n : ◌≡◌ {A = ℕ} 25 2 = cc in omega arith

-- tokens that end in `@` don't end in `@ [`
not_both_ends : (tokens : List LexedPiece) → EndsAt tokens → EndsAtBracket tokens → ⊥
not_both_ends tokens a b =
    let e = last_two a.front a.at (record {
      front = b.front;
      at = b.at;
      bracket = b.bracket;
      stands =
          sym a.stands ∙ b.stands;
      is_at = b.is_at;
      is_bracket = b.is_bracket;
    }) in
    at_no_bracket (sym a.is_at ∙ e.1)

-- `[` after no `@`
pub next_bracket : (before : Before) (tokens : List LexedPiece) (part : LexedPiece) → part.form ≡ Token (Sign 2) → before ≢ At →
    IsBefore before tokens → IsBefore Other (tokens ++ without_between (part ∷ []))
next_bracket before tokens part is no_at ends = let token : is_between part.form ≡ false = ap is_between is in rw token (
  λ a. at_no_bracket (sym (last_at tokens part a) ∙ is),
  λ b. no_at_before before no_at ends (last_two tokens part b).0,
)
  where
    no_at_before : (b : Before) → b ≢ At → IsBefore b tokens → EndsAt tokens → ⊥
    no_at_before Other differs are ends = are.0 ends
    no_at_before At differs are ends = differs refl
    no_at_before AtBracket differs are ends = not_both_ends tokens ends are

-- what the profile leaves out

bracket_before : (before : Before) (tokens : List LexedPiece) → IsBefore before tokens → EndsAtBracket tokens → before ≡ AtBracket
bracket_before Other tokens is ends = absurd (is.1 ends)
bracket_before At tokens is ends = absurd (not_both_ends tokens is ends)
bracket_before AtBracket tokens is ends = refl

left_out_after : (text : List ℕ) (before : Before) (tokens : List LexedPiece) (part : LexedPiece) → IsBefore before tokens →
    IsLeftOut text tokens part → IsLeftOutAfter before part.form (slice_range text part.start part.end)
left_out_after text before tokens part ends (outside e) = inl e
left_out_after text before tokens part ends (open_brace e) = inr (inl e)
left_out_after text before tokens part ends (close_brace e) = inr (inr (inl e))
left_out_after text before tokens part ends (attribute front at bracket stands is_at is_bracket is_name differs) =
    inr (inr (inr (
      bracket_before before tokens ends (record {
        front = front;
        at = at;
        bracket = bracket;
        stands = stands;
        is_at =
            is_at;
        is_bracket = is_bracket;
      }),
      is_name,
      differs,
    )))

left_out_by : (text : List ℕ) (before : Before) (tokens : List LexedPiece) (part : LexedPiece) → IsBefore before tokens →
    IsLeftOutAfter before part.form (slice_range text part.start part.end) → IsLeftOut text tokens part
left_out_by text before tokens part ends is = ⊎_elim (λ e. outside e) (⊎_elim (λ e. open_brace e) (⊎_elim (λ e. close_brace e)
    (λ a. let b : EndsAtBracket tokens = subst (λ (x : Before). IsBefore x tokens) a.0 ends in
    attribute b.front b.at b.bracket b.stands b.is_at b.is_bracket a.1 a.2))) is

none_push : (text : List ℕ) (tokens : List LexedPiece) (part : LexedPiece) → NoneLeftOut text tokens → ¬ IsLeftOut text tokens part →
    NoneLeftOut text (tokens ++ part ∷ [])
none_push text tokens part none kept before p after stands left_out =
    ⊎_elim
    (λ l. kept (subst (λ (q : LexedPiece). IsLeftOut text tokens q) (sym l.2) (subst (λ (ts : List LexedPiece). IsLeftOut text ts p) (sym l.1) left_out)))
    (λ r. none before p r.0 r.2 left_out)
    (where_in tokens before part p after stands)

first_push : (text : List ℕ) (tokens : List LexedPiece) (part : LexedPiece) (place : Place) → IsFirstLeftOut text tokens place →
    IsFirstLeftOut text (tokens ++ part ∷ []) place
first_push text tokens part place is = record {
  before = is.before;
  part = is.part;
  after = is.after ++ part ∷ [];
  stands = ap (λ ts. ts ++ part ∷ []) is.stands ∙ append_assoc is.before (is.part ∷ is.after) (part ∷ []);
  left_out = is.left_out;
  at = is.at;
  first = is.first;
}

-- one token more
left_out_push : (text : List ℕ) (before : Before) (tokens : List LexedPiece) (part : LexedPiece) (found : Option Place) (left_out : Bool) →
    IsBefore before tokens → (IsTrue left_out ↔ IsLeftOutAfter before part.form (slice_range text part.start part.end)) →
    IsLeftOutPlace text tokens found → IsLeftOutPlace text (tokens ++ part ∷ []) (earlier found left_out (place_of part))
left_out_push text before tokens part (Some place) left_out ends is was = first_push text tokens part place was
left_out_push text before tokens part None true ends is was = record {
  before = tokens;
  part = part;
  after = [];
  stands = refl;
  left_out = left_out_by text before tokens part ends (is.0 refl);
  at = refl;
  first = was;
}
left_out_push text before tokens part None false ends is was =
    none_push text tokens part was (λ l. let t : IsTrue false = is.1 (left_out_after text before tokens part ends l) in cc)

-- white space and comments are left in
between_left_in : (before : Before) (form : Form) (bytes : List ℕ) → is_between form ≡ true → ¬ IsLeftOutAfter before form bytes
between_left_in before Blank bytes between is = ⊎_elim (λ e. cc) (⊎_elim (λ e. cc) (⊎_elim (λ e. cc) (λ a. let e = a.1 in cc))) is
between_left_in before Comment bytes between is = ⊎_elim (λ e. cc) (⊎_elim (λ e. cc) (⊎_elim (λ e. cc) (λ a. let e = a.1 in cc))) is
between_left_in before (Token kind) bytes between is = cc
between_left_in before Outside bytes between is = cc

-- nothing new is found where nothing is left out
earlier_kept : (found : Option Place) (left_out : Bool) (place : Place) → ¬ IsTrue left_out → earlier found left_out place ≡ found
earlier_kept (Some place) left_out other not_out = refl
earlier_kept None true other not_out = absurd (not_out refl)
earlier_kept None false other not_out = refl

-- one part more
pub left_out_next : (text : List ℕ) (before : Before) (tokens : List LexedPiece) (part : LexedPiece) (found : Option Place) (left_out : Bool) →
    IsBefore before tokens → (IsTrue left_out ↔ IsLeftOutAfter before part.form (slice_range text part.start part.end)) →
    IsLeftOutPlace text tokens found → IsLeftOutPlace text (tokens ++ without_between (part ∷ [])) (earlier found left_out (place_of part))
left_out_next text before tokens part found left_out ends is was = by_form (is_between part.form) refl
  where
    by_form : (b : Bool) → is_between part.form ≡ b → IsLeftOutPlace text (tokens ++ without_between (part ∷ []))
        (earlier found left_out (place_of part))
    by_form true between = rw (
      between,
      append-nil tokens,
      earlier_kept found left_out (place_of part) (λ t. between_left_in before part.form (slice_range text part.start part.end) between (is.0 t)),
    ) was
    by_form false token = rw token (left_out_push text before tokens part found left_out ends is was)

-- the parts and what covers them

pub Covers-push : (text : List ℕ) (start : ℕ) (parts : List LexedPiece) (middle : ℕ) (part : LexedPiece) → Covers text start parts middle →
    part.start ≡ middle → IsLongest text part → Covers text start (parts ++ part ∷ []) part.end
Covers-push text start [] middle part covers at longest = (at ∙ sym covers, longest, refl)
Covers-push text start (p ∷ ps) middle part covers at longest = (covers.0, covers.1, Covers-push text p.end ps middle part covers.2 at longest)

list_of_option : {X : Type 0} (o : Option X) → cons_option o [] ≡ option_to_list o
list_of_option None = refl
list_of_option (Some x) = refl

tokens-push : (text : List ℕ) (parts : List LexedPiece) (part : LexedPiece) →
    tokens_of text (parts ++ part ∷ []) ≡ tokens_of text parts ++ token_with part.form (place_of part) (line_at text part.start)
tokens-push text parts part = filter_map-append (token_of text) parts (part ∷ [])
    ∙ ap (λ ts. tokens_of text parts ++ ts) (list_of_option (token_of text part))

line-push : (text : List ℕ) (start end : ℕ) → start ≤ end →
    line_at text start + count_by (λ byte. byte == line_feed) (slice_range text start end) ≡ line_at text end
line-push text start end forward =
    let whole : start + (end - start) ≡ end = omega arith in
    let count = λ (bytes : List ℕ). count_by (λ byte. byte == line_feed) bytes in
    sym (sum_by-append _ (take start text) (slice_range text start end)) ∙ ap count (sym (take-add start (end - start) text))
    ∙ ap (λ n. count (take n text)) whole

-- nothing is scanned yet
pub scanned_start : (text : List ℕ) (scan : Scan) → scan.tokens.items ≡ [] → scan.line ≡ 0 → scan.before ≡ Other →
    scan.left_out ≡ None → IsScanned text 0 scan
scanned_start text scan tokens line before left_out = record {
  parts = [];
  covers = refl;
  tokens = tokens;
  line = line;
  before = rw before (λ e. never_empty e.front e.at [] e.stands, λ e. never_empty e.front e.at (e.bracket ∷ []) e.stands);
  left_out = rw left_out (λ b p a e l. never_empty b p a e);
}

-- one part more
module _ (text : List ℕ) (start end : ℕ) (form : Form) (scan next : Scan) (left_out : Bool) where
  part : LexedPiece
  part = record { start = start; end = end; form = form }

  pub scanned_next : IsScanned text start scan → IsLongest text (record { start = start; end = end; form = form })
      → next.tokens.items ≡ scan.tokens.items ++ token_with form (record { start = start; end = end }) scan.line
      → next.line ≡ scan.line + count_by (λ byte. byte == line_feed) (slice_range text start end)
      → NextBefore scan.before form next.before
      → (IsTrue left_out ↔ IsLeftOutAfter scan.before form (slice_range text start end))
      → next.left_out ≡ earlier scan.left_out left_out (record { start = start; end = end })
      → IsScanned text end next
  unfolding part
  scanned_next is longest tokens line before out found = record {
    parts = is.parts ++ part ∷ [];
    covers = Covers-push text 0 is.parts start part is.covers refl longest;
    tokens = tokens ∙ ap (λ ts. ts ++ token_with form (place_of part) scan.line) is.tokens
        ∙ ap (λ n. tokens_of text is.parts ++ token_with form (place_of part) n) is.line ∙ sym (tokens-push text is.parts part);
    line = line ∙ ap (λ n. n + count_by (λ byte. byte == line_feed) (slice_range text start end)) is.line
        ∙ line-push text start end (let forward = piece_forward _ _ longest.piece in omega arith);
    before = subst (λ (ts : List LexedPiece). IsBefore next.before ts) (sym (filter-append _ is.parts (part ∷ [])))
        (before (without_between is.parts) part refl is.before);
    left_out = let here = left_out_next text scan.before (without_between is.parts) part scan.left_out left_out is.before out is.left_out in
        subst (λ (ts : List LexedPiece). IsLeftOutPlace text ts next.left_out) (sym (filter-append _ is.parts (part ∷ [])))
        (subst (λ (o : Option Place). IsLeftOutPlace text (without_between is.parts ++ without_between (part ∷ [])) o) (sym found) here);
  }
