-- One text more behind the others.
use Rattle.std.proofs.Common.{◌≡◌, ℕ, ◌+◌, ◌<◌, ◌≤◌, List, [], ◌∷◌, ◌++◌, length, map, refl, ap, sym, ◌∙◌, subst, arith, append_assoc, append-nil, length-append}
use Rattle.std.proofs.lemmas.List.{map-append}
use Rattle.std.proofs.lemmas.List.Elements.{All-push}
use Rattle.std.specs.Prelude.{All}
use Rattle.bl_tree.specs.declared.token.Token.{Token}
use Rattle.bl_lex.specs.Tokens.{Lexes}
use Rattle.bl_joined.specs.declared.joined.Joined.{Joined}
use Rattle.bl_joined.specs.Joined.{IsJoinedOf}
use Rattle.bl_joined.specs.Places.{starts_behind}
use Rattle.bl_joined.specs.Texts.{LexedText, joined_text, joined_tokens, line_feeds, moved_token, texts_of, tokens_behind}
use Rattle.bl_joined.proofs.Lines.{feeds_append, feeds_few}

text_more : (texts : List (List ℕ)) (text : List ℕ) → joined_text (texts ++ text ∷ []) ≡ joined_text texts ++ (text ++ 10 ∷ [])
text_more [] text = refl
text_more (first ∷ texts) text = ap (λ (t : List ℕ). first ++ 10 ∷ t) (text_more texts text)
    ∙ sym (append_assoc first (10 ∷ joined_text texts) (text ++ 10 ∷ []))

size_more : (text rest : List ℕ) → length (text ++ 10 ∷ rest) ≡ length text + 1 + length rest
size_more text rest = omega (arith, length-append text (10 ∷ rest))

feeds_more : (text rest : List ℕ) → line_feeds (text ++ 10 ∷ rest) ≡ line_feeds text + 1 + line_feeds rest
feeds_more text rest = let one : line_feeds (10 ∷ []) ≡ 1 = refl in
    let split : line_feeds (10 ∷ rest) ≡ line_feeds (10 ∷ []) + line_feeds rest = feeds_append (10 ∷ []) rest in
    omega (arith, feeds_append text (10 ∷ rest), split, one)

starts_more : (offset : ℕ) (texts : List (List ℕ)) (text : List ℕ) →
    starts_behind offset (texts ++ text ∷ []) ≡ starts_behind offset texts ++ (offset + length (joined_text texts)) ∷ []
starts_more offset [] text = let none : offset ≡ offset + 0 = omega arith in ap (λ n. n ∷ []) none
starts_more offset (first ∷ texts) text =
    let same : offset + length first + 1 + length (joined_text texts) ≡ offset + length (first ++ 10 ∷ joined_text texts) =
    omega (arith, size_more first (joined_text texts)) in
    ap (λ (ns : List ℕ). offset ∷ ns)
    (starts_more (offset + length first + 1) texts text ∙ ap (λ n. starts_behind (offset + length first + 1) texts ++ n ∷ []) same)

tokens_more : (offset lines : ℕ) (files : List LexedText) (file : LexedText) → tokens_behind offset lines (files ++ file ∷ [])
    ≡ tokens_behind offset lines files
    ++ map (moved_token (offset + length (joined_text (texts_of files))) (lines + line_feeds (joined_text (texts_of files)))) file.tokens
tokens_more offset lines [] file =
    let here : offset ≡ offset + 0 = omega arith in
    let now : lines ≡ lines + 0 = omega arith in
    append-nil (map (moved_token offset lines) file.tokens) ∙ ap (λ n. map (moved_token n lines) file.tokens) here
    ∙ ap (λ n. map (moved_token (offset + 0) n) file.tokens) now
tokens_more offset lines (first ∷ files) file =
    let rest = joined_text (texts_of files) in
    let there : offset + length first.text + 1 + length rest ≡ offset + length (first.text ++ 10 ∷ rest) = omega (arith, size_more first.text rest) in
    let then : lines + line_feeds first.text + 1 + line_feeds rest ≡ lines + line_feeds (first.text ++ 10 ∷ rest) = omega (arith, feeds_more first.text rest) in
    let own = map (moved_token offset lines) first.tokens in
    let more = tokens_behind (offset + length first.text + 1) (lines + line_feeds first.text + 1) files in
    ap (λ (ts : List Token). own ++ ts)
    (tokens_more (offset + length first.text + 1) (lines + line_feeds first.text + 1) files file
    ∙ ap (λ n. more ++ map (moved_token n (lines + line_feeds first.text + 1 + line_feeds rest)) file.tokens) there
    ∙ ap (λ n. more ++ map (moved_token (offset + length (first.text ++ 10 ∷ rest)) n) file.tokens) then)
    ∙ sym (append_assoc own more (map (moved_token (offset + length (first.text ++ 10 ∷ rest)) (lines + line_feeds (first.text ++ 10 ∷ rest))) file.tokens))

module _ (texts : List (List ℕ)) (text : List ℕ) (tokens : List Token) (before after : Joined) (is : IsJoinedOf texts before) (lexes : Lexes text tokens) where
  size : length before.text.items ≡ length (joined_text texts)
  size = ap length is.text

  file : LexedText
  file = record { text = text; tokens = tokens }

  tokens_there : after.tokens.items ≡ before.tokens.items ++ map (moved_token (length before.text.items) before.lines) tokens →
      after.tokens.items ≡ joined_tokens (is.files ++ file ∷ [])
  unfolding file
  tokens_there more = more ∙ ap (λ (ts : List Token). ts ++ map (moved_token (length before.text.items) before.lines) tokens) is.tokens
      ∙ ap (λ n. joined_tokens is.files ++ map (moved_token n before.lines) tokens) (size ∙ ap (λ (ts : List (List ℕ)). length (joined_text ts)) (sym is.of_texts))
      ∙ ap (λ n. joined_tokens is.files ++ map (moved_token (length (joined_text (texts_of is.files))) n) tokens)
      (is.lines ∙ ap (λ (ts : List (List ℕ)). line_feeds (joined_text ts)) (sym is.of_texts))
      ∙ ap (λ n. joined_tokens is.files ++ map (moved_token n (line_feeds (joined_text (texts_of is.files)))) tokens) none
      ∙ ap (λ n. joined_tokens is.files ++ map (moved_token (0 + length (joined_text (texts_of is.files))) n) tokens) none_lines
      ∙ sym (tokens_more 0 0 is.files file)
    where
      none : length (joined_text (texts_of is.files)) ≡ 0 + length (joined_text (texts_of is.files))
      none = omega arith

      none_lines : line_feeds (joined_text (texts_of is.files)) ≡ 0 + line_feeds (joined_text (texts_of is.files))
      none_lines = omega arith

  pub added : after.text.items ≡ before.text.items ++ (text ++ 10 ∷ []) →
      after.tokens.items ≡ before.tokens.items ++ map (moved_token (length before.text.items) before.lines) tokens →
      after.starts.items ≡ before.starts.items ++ length before.text.items ∷ [] → after.lines ≡ before.lines + (line_feeds text + 1) →
      IsJoinedOf (texts ++ text ∷ []) after
  unfolding file
  added text_grew tokens_grew starts_grew lines_grew = record {
    files = is.files ++ file ∷ [];
    of_texts = map-append (λ (file : LexedText). file.text) is.files (file ∷ []) ∙ ap (λ (ts : List (List ℕ)). ts ++ text ∷ []) is.of_texts;
    lexed = All-push (λ (file : LexedText). Lexes file.text file.tokens) is.files file is.lexed lexes;
    text = text_grew ∙ ap (λ (t : List ℕ). t ++ (text ++ 10 ∷ [])) is.text ∙ sym (text_more texts text);
    tokens = tokens_there tokens_grew;
    starts = let none : length before.text.items ≡ 0 + length (joined_text texts) = omega (arith, size) in
        starts_grew ∙ ap (λ (ns : List ℕ). ns ++ length before.text.items ∷ []) is.starts
        ∙ ap (λ n. starts_behind 0 texts ++ n ∷ []) none ∙ sym (starts_more 0 texts text);
    lines = let one : line_feeds (10 ∷ []) ≡ 1 = refl in
        omega (
          arith,
          lines_grew,
          is.lines,
          ap line_feeds (text_more texts text),
          feeds_append (joined_text texts) (text ++ 10 ∷ []),
          feeds_append text (10 ∷ []),
          one,
        );
  }

-- there aren't more lines than bytes
pub few_lines : (texts : List (List ℕ)) (joined : Joined) → IsJoinedOf texts joined → joined.lines ≤ length joined.text.items
few_lines texts joined is = omega (arith, is.lines, ap length is.text, feeds_few (joined_text texts))
