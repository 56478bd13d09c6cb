-- Where pieces stand behind others: the profile leaves none out that it leaves in by itself, unless those before end in `@` or `[`.
use Rattle.std.proofs.Common.{◌≡◌, ◌≢◌, ℕ, ◌+◌, ◌≤◌, Bool, true, false, cond, not, List, [], ◌∷◌, ◌++◌, ◌⊎◌, inl, inr, ⊎_elim, length, map, refl, ap, sym, ◌∙◌}
use Rattle.std.proofs.Common.{subst, arith}
use Rattle.std.proofs.lemmas.List.Elements.{All-head, All-tail}
use Rattle.std.specs.List.{cons_option}
use Rattle.std.specs.Prelude.{All, Option, Some, None, option_map, slice_range, ⊤}
use Rattle.bl_tree.specs.declared.token.TokenKind.{TokenKind}
use Rattle.bl_tree.specs.declared.token.TokenKind.TheVariants.{Sign}
use Rattle.bl_lex.specs.declared.piece.Form.{Form}
use Rattle.bl_lex.specs.declared.piece.Form.TheVariants.{Blank, Comment, Outside, Token as TokenForm}
use Rattle.bl_lex.specs.declared.sign.TheConstants.{AT, OPEN_BRACKET}
use Rattle.bl_lex.specs.Pieces.{is_between, kind_of}
use Rattle.bl_lex.specs.Rules.{IsLeftOut}
use Rattle.bl_lex.specs.Rules.IsLeftOut.{outside, open_brace, close_brace, attribute}
use Rattle.bl_lex.specs.Tokens.{Covers, LexedPiece, line_at, place_of, tokens_of, without_between}
use Rattle.bl_lex.specs.inner.Walk.{NoneLeftOut}
use Rattle.bl_lex.proofs.PieceLaws.{piece_forward, piece_inside}
use Rattle.bl_parse_syntax.specs.inner.Depth.{last_kind}
use Rattle.bl_module_laws_texts.proofs.Last.{EndsItems, no_at, no_bracket}

-- ---- the last piece

-- the kind of the last piece, if there is one, and else this one
pub last_form : Option TokenKind → List LexedPiece → Option TokenKind
last_form before [] = before
last_form before (part ∷ parts) = last_form (kind_of part.form) parts

last_of_two : (before : Option TokenKind) (front : List LexedPiece) (at bracket : LexedPiece) →
    last_form before (front ++ (at ∷ bracket ∷ [])) ≡ kind_of bracket.form
unfolding last_form
last_of_two before [] at bracket = refl
last_of_two before (part ∷ front) at bracket = last_of_two (kind_of part.form) front at bracket

last_of_one : (before : Option TokenKind) (front : List LexedPiece) (at : LexedPiece) → last_form before (front ++ (at ∷ [])) ≡ kind_of at.form
unfolding last_form
last_of_one before [] at = refl
last_of_one before (part ∷ front) at = last_of_one (kind_of part.form) front at

-- the last token is that of the last piece
pub last_token : (text : List ℕ) (before : Option TokenKind) (parts : List LexedPiece) → All (λ part. part.form ≢ Outside) parts →
    last_kind before (tokens_of text parts) ≡ last_form before (without_between parts)
unfolding last_form
last_token text before [] kept = refl
last_token text before (part ∷ parts) kept =
    by_form part.form (All-head (λ (part : LexedPiece). part.form ≢ Outside) part parts kept)
    (λ before. last_token text before parts (All-tail (λ (part : LexedPiece). part.form ≢ Outside) part parts kept))
  where
    by_form : (form : Form) → form ≢ Outside →
        ((before : Option TokenKind) → last_kind before (tokens_of text parts) ≡ last_form before (without_between parts)) →
        last_kind before (cons_option (option_map (λ kind. record { kind = kind; place = place_of part; line = line_at text part.start }) (kind_of form))
        (tokens_of text parts))
        ≡ last_form before
        (cond (not (is_between form)) (record { start = part.start; end = part.end; form = form } ∷ without_between parts) (without_between parts))
    by_form Blank kept rest = rest before
    by_form Comment kept rest = rest before
    by_form (TokenForm kind) kept rest = rest (Some kind)
    by_form Outside kept rest = absurd (kept refl)

ends_one : (xs front : List LexedPiece) (at : LexedPiece) → EndsItems (last_form None xs) → xs ≡ front ++ (at ∷ []) → at.form ≡ TokenForm (Sign AT) → ⊥
ends_one xs front at ends stands is = no_at (Sign AT) refl
    (subst (λ (last : Option TokenKind). EndsItems last) (ap (last_form None) stands ∙ last_of_one None front at ∙ ap kind_of is) ends)

ends_two : (xs front : List LexedPiece) (at bracket : LexedPiece) → EndsItems (last_form None xs) → xs ≡ front ++ (at ∷ bracket ∷ []) →
    bracket.form ≡ TokenForm (Sign OPEN_BRACKET) → ⊥
ends_two xs front at bracket ends stands is = no_bracket (Sign OPEN_BRACKET) refl
    (subst (λ (last : Option TokenKind). EndsItems last) (ap (last_form None) stands ∙ last_of_two None front at bracket ∙ ap kind_of is) ends)

-- ---- two lists, one after the other

-- two pieces at the end of both lists stand in the second, or the first ends in them or in one of them
cut : (xs ys front : List LexedPiece) (at bracket : LexedPiece) → xs ++ ys ≡ front ++ (at ∷ bracket ∷ []) →
    (xs ≡ front ++ (at ∷ bracket ∷ [])) ⊎ ((xs ≡ front ++ (at ∷ [])) ⊎ ((rest : List LexedPiece) × (ys ≡ rest ++ (at ∷ bracket ∷ []))))
cut [] ys front at bracket e = inr (inr (front, e))
cut (x ∷ []) ys [] at bracket e = let first : x ≡ at = cc in inr (inl (ap (λ p. p ∷ []) first))
cut (x ∷ (y ∷ [])) ys [] at bracket e = let first : x ≡ at = cc in let second : y ≡ bracket = cc in inl (λ i. first i ∷ second i ∷ [])
cut (x ∷ (y ∷ (z ∷ xs))) ys [] at bracket e = absurd (cc)
cut (x ∷ xs) ys (f ∷ front) at bracket e =
    let first : x ≡ f = cc in
    let rest : xs ++ ys ≡ front ++ (at ∷ bracket ∷ []) = cc in
    ⊎_elim (λ s. inl (λ i. first i ∷ s i)) (⊎_elim (λ s. inr (inl (λ i. first i ∷ s i))) (λ s. inr (inr s))) (cut xs ys front at bracket rest)

-- a piece of both lists stands in the first or in the second
where_is : (xs ys before : List LexedPiece) (part : LexedPiece) (after : List LexedPiece) → xs ++ ys ≡ before ++ part ∷ after →
    ((rest : List LexedPiece) × (xs ≡ before ++ part ∷ rest))
    ⊎ ((own : List LexedPiece) × ((before ≡ xs ++ own) × (ys ≡ own ++ part ∷ after)))
where_is [] ys before part after e = inr (before, (refl, e))
where_is (x ∷ xs) ys [] part after e = let first : x ≡ part = cc in inl (xs, ap (λ p. p ∷ xs) first)
where_is (x ∷ xs) ys (b ∷ before) part after e =
    let first : x ≡ b = cc in
    let rest : xs ++ ys ≡ before ++ part ∷ after = cc in
    ⊎_elim (λ s. inl (s.0, (λ i. first i ∷ s.1 i))) (λ s. inr (s.0, ((λ i. sym first i ∷ s.1.0 i), s.1.1))) (where_is xs ys before part after rest)

module _ (text : List ℕ) (xs : List LexedPiece) (ends : EndsItems (last_form None xs)) where
  behind : (before own : List LexedPiece) (part : LexedPiece) → before ≡ xs ++ own → IsLeftOut text before part → IsLeftOut text own part
  behind before own part is (outside form) = outside form
  behind before own part is (open_brace form) = open_brace form
  behind before own part is (close_brace form) = close_brace form
  behind before own part is (attribute front at bracket stands is_at is_bracket named differs) = ⊎_elim
      (λ s. absurd (ends_two xs front at bracket ends s is_bracket))
      (⊎_elim (λ s. absurd (ends_one xs front at ends s is_at)) (λ s. attribute s.0 at bracket s.1 is_at is_bracket named differs))
      (cut xs own front at bracket (sym is ∙ stands))

  pub both : (ys : List LexedPiece) → NoneLeftOut text xs → NoneLeftOut text ys → NoneLeftOut text (xs ++ ys)
  both ys first second before part after e left = ⊎_elim
      (λ s. first before part s.0 s.1 left)
      (λ s. second s.0 part after s.1.1 (behind before s.0 part s.1.0 left))
      (where_is xs ys before part after e)

pub none_of_none : (text : List ℕ) → NoneLeftOut text []
none_of_none text [] part after e left = absurd (cc)
none_of_none text (b ∷ before) part after e left = absurd (cc)

-- ---- pieces of a text that stands in another

-- a piece after so many bytes were written before its text
abbrev pub moved_piece : ℕ → LexedPiece → LexedPiece
moved_piece n part = record { start = n + part.start; end = n + part.end; form = part.form }

pub last_moved : (n : ℕ) (before : Option TokenKind) (parts : List LexedPiece) → last_form before (map (moved_piece n) parts) ≡ last_form before parts
unfolding last_form
last_moved n before [] = refl
last_moved n before (part ∷ parts) = last_moved n (kind_of part.form) parts

pub without_moved : (n : ℕ) (parts : List LexedPiece) → without_between (map (moved_piece n) parts) ≡ map (moved_piece n) (without_between parts)
without_moved n [] = refl
without_moved n (part ∷ parts) = by_form (not (is_between part.form)) (without_moved n parts)
  where
    by_form : (b : Bool) → without_between (map (moved_piece n) parts) ≡ map (moved_piece n) (without_between parts) →
        cond b (moved_piece n part ∷ without_between (map (moved_piece n) parts)) (without_between (map (moved_piece n) parts))
        ≡ map (moved_piece n) (cond b (part ∷ without_between parts) (without_between parts))
    by_form true rest = ap (λ l. moved_piece n part ∷ l) rest
    by_form false rest = rest

-- a part of moved pieces is the moved part of the pieces
record Unmoved (n : ℕ) (parts before : List LexedPiece) (part : LexedPiece) (after : List LexedPiece) : Type 0 where
  own_before : List LexedPiece
  own : LexedPiece
  own_after : List LexedPiece
  stands : parts ≡ own_before ++ own ∷ own_after
  same_before : before ≡ map (moved_piece n) own_before
  same : part ≡ moved_piece n own
  same_after : after ≡ map (moved_piece n) own_after

unmoved : (n : ℕ) (parts before : List LexedPiece) (part : LexedPiece) (after : List LexedPiece) →
    map (moved_piece n) parts ≡ before ++ part ∷ after → Unmoved n parts before part after
unmoved n [] [] part after e = absurd (cc)
unmoved n [] (b ∷ before) part after e = absurd (cc)
unmoved n (x ∷ xs) [] part after e =
    let here : moved_piece n x ∷ map (moved_piece n) xs ≡ part ∷ after = e in
    let first : part ≡ moved_piece n x = cc in
    let rest : after ≡ map (moved_piece n) xs = cc in
    record { own_before = []; own = x; own_after = xs; stands = refl; same_before = refl; same = first; same_after = rest }
unmoved n (x ∷ xs) (b ∷ before) part after e =
    let here : moved_piece n x ∷ map (moved_piece n) xs ≡ b ∷ (before ++ part ∷ after) = e in
    let first : b ≡ moved_piece n x = cc in
    let rest : map (moved_piece n) xs ≡ before ++ part ∷ after = cc in
    let h = unmoved n xs before part after rest in
    record {
      own_before = x ∷ h.own_before;
      own = h.own;
      own_after = h.own_after;
      stands = ap (λ l. x ∷ l) h.stands;
      same_before = λ i. first i ∷ h.same_before i;
      same = h.same;
      same_after = h.same_after;
    }

-- one moved piece is one piece
single : (n : ℕ) (parts : List LexedPiece) (one : LexedPiece) → one ∷ [] ≡ map (moved_piece n) parts →
    (own : LexedPiece) × ((parts ≡ own ∷ []) × (one ≡ moved_piece n own))
single n [] one e = absurd (cc)
single n (x ∷ []) one e =
    let here : one ∷ [] ≡ moved_piece n x ∷ [] = e in
    let first : one ≡ moved_piece n x = cc in
    (x, (refl, first))
single n (x ∷ (y ∷ xs)) one e =
    let here : one ∷ [] ≡ moved_piece n x ∷ (moved_piece n y ∷ map (moved_piece n) xs) = e in absurd (cc)

-- the pieces stand in so many bytes
pub StandIn : ℕ → List LexedPiece → Type 0
StandIn size [] = ⊤
StandIn size (part ∷ parts) = (part.start ≤ part.end) × (part.end ≤ size) × StandIn size parts

pub covers_inside : (text : List ℕ) (start : ℕ) (parts : List LexedPiece) (end : ℕ) → Covers text start parts end →
    StandIn (length text) (without_between parts)
unfolding StandIn
covers_inside text start [] end c = tt
covers_inside text start (part ∷ parts) end c = by_form (not (is_between part.form)) (covers_inside text part.end parts end c.2)
  where
    by_form : (b : Bool) → StandIn (length text) (without_between parts) →
        StandIn (length text) (cond b (part ∷ without_between parts) (without_between parts))
    by_form true rest = let forward = piece_forward text part.start c.1.piece in (omega (arith, forward), piece_inside text part.start c.1.piece, rest)
    by_form false rest = rest

inside_at : (size : ℕ) (before : List LexedPiece) (part : LexedPiece) (after : List LexedPiece) → StandIn size (before ++ part ∷ after) →
    (part.start ≤ part.end) × (part.end ≤ size)
unfolding StandIn
inside_at size [] part after all = (all.0, all.1)
inside_at size (b ∷ before) part after all = inside_at size before part after all.2

-- the bytes of the text stand in the whole behind so many others
module _ (text whole : List ℕ) (n : ℕ)
    (range : (s e : ℕ) → s ≤ e → e ≤ length text → slice_range whole (n + s) (n + e) ≡ slice_range text s e) where
  left_back : (before : List LexedPiece) (part : LexedPiece) (own_before : List LexedPiece) (own : LexedPiece) →
      before ≡ map (moved_piece n) own_before → part ≡ moved_piece n own → own.start ≤ own.end → own.end ≤ length text →
      IsLeftOut whole before part → IsLeftOut text own_before own
  left_back before part own_before own same_before same forward inside (outside form) = outside (ap (λ (p : LexedPiece). p.form) (sym same) ∙ form)
  left_back before part own_before own same_before same forward inside (open_brace form) = open_brace (ap (λ (p : LexedPiece). p.form) (sym same) ∙ form)
  left_back before part own_before own same_before same forward inside (close_brace form) = close_brace (ap (λ (p : LexedPiece). p.form) (sym same) ∙ form)
  left_back before part own_before own same_before same forward inside (attribute front at bracket stands is_at is_bracket named differs) =
      let h = unmoved n own_before front at (bracket ∷ []) (sym same_before ∙ stands) in
      let l = single n h.own_after bracket h.same_after in
      let bytes : slice_range whole part.start part.end ≡ slice_range text own.start own.end =
      ap (λ (p : LexedPiece). slice_range whole p.start p.end) same ∙ range own.start own.end forward inside in
      attribute h.own_before h.own l.0 (h.stands ∙ ap (λ (rest : List LexedPiece). h.own_before ++ h.own ∷ rest) l.1.0)
      (ap (λ (p : LexedPiece). p.form) (sym h.same) ∙ is_at) (ap (λ (p : LexedPiece). p.form) (sym l.1.1) ∙ is_bracket)
      (ap (λ (p : LexedPiece). p.form) (sym same) ∙ named) (λ spelled. differs (bytes ∙ spelled))

  pub none_there : (parts : List LexedPiece) → StandIn (length text) parts → NoneLeftOut text parts → NoneLeftOut whole (map (moved_piece n) parts)
  none_there parts inside none before part after e left =
      let h = unmoved n parts before part after e in
      let where_it_is = inside_at (length text) h.own_before h.own h.own_after (subst (StandIn (length text)) h.stands inside) in
      none h.own_before h.own h.own_after h.stands
      (left_back before part h.own_before h.own h.same_before h.same where_it_is.0 where_it_is.1 left)
