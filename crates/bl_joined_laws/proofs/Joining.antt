-- The pieces of each text cover the joined text, and their tokens are its tokens.
use Rattle.std.proofs.Common.{◌≡◌, ◌≢◌, ℕ, ◌+◌, ◌<◌, ◌≤◌, List, [], ◌∷◌, ◌++◌, length, map, take, refl, ap, sym, ◌∙◌, subst, arith, append_assoc}
use Rattle.std.proofs.Common.{append-nil, length-append}
use Rattle.std.proofs.lemmas.List.Elements.{All-append, All-head, All-push, All-tail, filter_map-append}
use Rattle.std.specs.List.{cons_option}
use Rattle.std.specs.Prelude.{All, Option, Some, None, ◌==◌, option_map}
use Rattle.bl_tree.specs.declared.token.Token.{Token}
use Rattle.bl_tree.specs.declared.token.TokenKind.{TokenKind}
use Rattle.bl_lex.specs.declared.piece.Form.{Form}
use Rattle.bl_lex.specs.declared.piece.Form.TheVariants.{Blank, Outside}
use Rattle.bl_lex.specs.Pieces.{kind_of}
use Rattle.bl_lex.specs.Tokens.{Covers, IsLongest, LexedPiece, Lexes, line_at, token_of, tokens_of}
use Rattle.bl_lex.proofs.PieceLaws.{piece_forward, piece_inside}
use Rattle.bl_joined.proofs.Lines.{feeds_append}
use Rattle.bl_joined.specs.Texts.{LexedText, joined_text, joined_tokens, line_feeds, moved_token, texts_of, tokens_behind}
use Rattle.bl_joined_laws.proofs.Bytes.{front}
use Rattle.bl_joined_laws.proofs.Pieces.{longest_feed, longest_there}

-- a piece after so many bytes were written before its text
abbrev moved_piece : ℕ → LexedPiece → LexedPiece
moved_piece n part = record { start = n + part.start; end = n + part.end; form = part.form }

abbrev Kept : List LexedPiece → Type 0
Kept parts = All (λ part. part.form ≢ Outside) parts

pub covers_append : (text : List ℕ) (start : ℕ) (xs : List LexedPiece) (middle : ℕ) (ys : List LexedPiece) (end : ℕ) →
    Covers text start xs middle → Covers text middle ys end → Covers text start (xs ++ ys) end
covers_append text start [] middle ys end a b = subst (λ (s : ℕ). Covers text s ys end) (sym a) b
covers_append text start (x ∷ xs) middle ys end a b = (a.0, a.1, covers_append text x.end xs middle ys end a.2 b)

all_cons : (x : LexedPiece) (xs : List LexedPiece) → x.form ≢ Outside → Kept xs → Kept (x ∷ xs)
all_cons x xs first rest = All-append (λ part. part.form ≢ Outside) (x ∷ []) xs
    (All-push (λ part. part.form ≢ Outside) [] x (λ k d inside. absurd (omega (arith, inside))) first) rest

blank_kept : ◌≡◌ {A = Form} Blank Outside → ⊥
blank_kept same = cc

-- ---- one text

module _ (whole before text after : List ℕ) (is : whole ≡ before ++ (text ++ 10 ∷ after)) where
  covers_there : (start : ℕ) (parts : List LexedPiece) (end : ℕ) → Covers text start parts end →
      Covers whole (length before + start) (map (moved_piece (length before)) parts) (length before + end)
  covers_there start [] end c = ap (λ k. length before + k) c
  covers_there start (part ∷ parts) end c = (
    ap (λ k. length before + k) c.0,
    longest_there whole before text after is part.start part.end part.form c.1,
    covers_there part.end parts end c.2,
  )

  line_there : (s : ℕ) → s ≤ length text → line_at whole (length before + s) ≡ line_feeds before + line_at text s
  line_there s inside = ap line_feeds (front whole before text after is s inside) ∙ feeds_append before (take s text)

  by_kind : (kind : Option TokenKind) (s e line : ℕ) →
      option_map (λ kind. record { kind = kind; place = record { start = length before + s; end = length before + e }; line = line_feeds before + line }) kind
      ≡ option_map (moved_token (length before) (line_feeds before)) (option_map (λ kind. record { kind = kind; place = record { start = s; end = e }; line = line }) kind)
  by_kind None s e line = refl
  by_kind (Some kind) s e line = refl

  token_there : (part : LexedPiece) → IsLongest text part → token_of whole (moved_piece (length before) part)
      ≡ option_map (moved_token (length before) (line_feeds before)) (token_of text part)
  token_there part l =
      let forward = piece_forward text part.start l.piece in
      let inside = piece_inside text part.start l.piece in
      ap (λ (line : ℕ). option_map (λ kind. record { kind = kind; place = record { start = length before + part.start; end = length before + part.end }; line = line })
      (kind_of part.form)) (line_there part.start (omega (arith, forward, inside)))
      ∙ by_kind (kind_of part.form) part.start part.end (line_at text part.start)

  mapped_option : (o : Option Token) (xs : List Token) → cons_option (option_map (moved_token (length before) (line_feeds before)) o)
      (map (moved_token (length before) (line_feeds before)) xs)
      ≡ map (moved_token (length before) (line_feeds before)) (cons_option o xs)
  mapped_option None xs = refl
  mapped_option (Some x) xs = refl

  tokens_there : (start : ℕ) (parts : List LexedPiece) (end : ℕ) → Covers text start parts end →
      tokens_of whole (map (moved_piece (length before)) parts) ≡ map (moved_token (length before) (line_feeds before)) (tokens_of text parts)
  tokens_there start [] end c = refl
  tokens_there start (part ∷ parts) end c =
      ap (λ (o : Option Token). cons_option o (tokens_of whole (map (moved_piece (length before)) parts))) (token_there part c.1)
      ∙ ap (λ (xs : List Token). cons_option (option_map (moved_token (length before) (line_feeds before)) (token_of text part)) xs)
      (tokens_there part.end parts end c.2)
      ∙ mapped_option (token_of text part) (tokens_of text parts)

  kept_there : (parts : List LexedPiece) → Kept parts → Kept (map (moved_piece (length before)) parts)
  kept_there [] kept = λ k d inside. absurd (omega (arith, inside))
  kept_there (part ∷ parts) kept =
      all_cons (moved_piece (length before) part) (map (moved_piece (length before)) parts)
      (All-head (λ part. part.form ≢ Outside) part parts kept) (kept_there parts (All-tail (λ part. part.form ≢ Outside) part parts kept))

-- ---- all texts

-- the rest of the whole, from where texts begin, is covered and has these tokens
record Rest (whole : List ℕ) (start : ℕ) (tokens : List Token) : Type 0 where
  parts : List LexedPiece
  covers : Covers whole start parts (length whole)
  kept : Kept parts
  lexed : tokens_of whole parts ≡ tokens

module _ (whole before text after : List ℕ) (is : whole ≡ before ++ (text ++ 10 ∷ after)) where
  feed_piece : LexedPiece
  feed_piece = record { start = length before + length text; end = length before + length text + 1; form = Blank }

  first_covers : (parts : List LexedPiece) → Covers text 0 parts (length text) →
      Covers whole (length before) (map (moved_piece (length before)) parts) (length before + length text)
  first_covers parts c = let none : length before + 0 ≡ length before = omega arith in
      subst (λ (s : ℕ). Covers whole s (map (moved_piece (length before)) parts) (length before + length text)) none
      (covers_there whole before text after is 0 parts (length text) c)

  rest_more : (tokens others : List Token) → Lexes text tokens → Rest whole (length before + length text + 1) others →
      Rest whole (length before) (map (moved_token (length before) (line_feeds before)) tokens ++ others)
  unfolding feed_piece
  rest_more tokens others own rest = record {
    parts = map (moved_piece (length before)) own.parts ++ feed_piece ∷ rest.parts;
    covers = covers_append whole (length before) (map (moved_piece (length before)) own.parts) (length before + length text) (feed_piece ∷ rest.parts)
        (length whole) (first_covers own.parts own.covers) (refl, longest_feed whole before text after is, rest.covers);
    kept = All-append (λ part. part.form ≢ Outside) (map (moved_piece (length before)) own.parts) (feed_piece ∷ rest.parts)
        (kept_there whole before text after is own.parts own.each_has_a_kind) (all_cons feed_piece rest.parts blank_kept rest.kept);
    lexed = filter_map-append (token_of whole) (map (moved_piece (length before)) own.parts) (feed_piece ∷ rest.parts)
        ∙ ap (λ (xs : List Token). xs ++ tokens_of whole rest.parts)
        (tokens_there whole before text after is 0 own.parts (length text) own.covers
        ∙ ap (map (moved_token (length before) (line_feeds before))) (sym own.are_tokens))
        ∙ ap (λ (xs : List Token). map (moved_token (length before) (line_feeds before)) tokens ++ xs) rest.lexed;
  }

-- one text more stands before the rest
module _ (before text : List ℕ) where
  pub more : List ℕ
  more = before ++ (text ++ 10 ∷ [])

  pub size_more : length more ≡ length before + length text + 1
  unfolding more
  size_more = omega (arith, length-append before (text ++ 10 ∷ []), length-append text (10 ∷ []))

  pub feeds_more : line_feeds more ≡ line_feeds before + line_feeds text + 1
  unfolding more
  feeds_more = let one : line_feeds (10 ∷ []) ≡ 1 = refl in
      omega (arith, feeds_append before (text ++ 10 ∷ []), feeds_append text (10 ∷ []), one)

  pub further : (whole after : List ℕ) → whole ≡ before ++ (text ++ 10 ∷ after) → whole ≡ more ++ after
  unfolding more
  further whole after is = is ∙ ap (λ (t : List ℕ). before ++ t) (sym (append_assoc text (10 ∷ []) after))
      ∙ sym (append_assoc before (text ++ 10 ∷ []) after)

  moved_rest : (whole : List ℕ) (files : List LexedText) → Rest whole (length more) (tokens_behind (length more) (line_feeds more) files) →
      Rest whole (length before + length text + 1) (tokens_behind (length before + length text + 1) (line_feeds before + line_feeds text + 1) files)
  moved_rest whole files rest =
      subst (λ (m : ℕ). Rest whole (length before + length text + 1) (tokens_behind (length before + length text + 1) m files)) feeds_more
      (subst (λ (m : ℕ). Rest whole m (tokens_behind m (line_feeds more) files)) size_more rest)

rest_from : (whole before : List ℕ) (files : List LexedText) → whole ≡ before ++ joined_text (texts_of files) →
    All (λ file. Lexes file.text file.tokens) files → Rest whole (length before) (tokens_behind (length before) (line_feeds before) files)
rest_from whole before [] is each = record {
  parts = [];
  covers = sym (ap length (is ∙ append-nil before));
  kept = λ k d inside. absurd (omega (arith, inside));
  lexed = refl;
}
rest_from whole before (file ∷ files) is each =
    rest_more whole before file.text (joined_text (texts_of files)) is file.tokens
    (tokens_behind (length before + length file.text + 1) (line_feeds before + line_feeds file.text + 1) files)
    (All-head (λ file. Lexes file.text file.tokens) file files each)
    (moved_rest before file.text whole files
    (rest_from whole (more before file.text) files (further before file.text whole (joined_text (texts_of files)) is)
    (All-tail (λ file. Lexes file.text file.tokens) file files each)))

pub joined_lexes : (files : List LexedText) → All (λ file. Lexes file.text file.tokens) files →
    Lexes (joined_text (texts_of files)) (joined_tokens files)
joined_lexes files each = let all = rest_from (joined_text (texts_of files)) [] files refl each in record {
  parts = all.parts;
  covers = all.covers;
  each_has_a_kind = all.kept;
  are_tokens = sym all.lexed;
}
