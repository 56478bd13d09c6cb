-- The items of each text, moved, are spelled by the joined tokens.
use Rattle.std.proofs.Common.{◌≡◌, ℕ, zero, suc, ◌+◌, ◌-◌, ◌<◌, ◌≤◌, Bool, false, ◌&&◌, List, [], ◌∷◌, ◌++◌, ⊎_elim, length, map, refl, ap}
use Rattle.std.proofs.Common.{sym, ◌∙◌, subst, arith, append_assoc, append-nil, length-append}
use Rattle.std.proofs.lemmas.Bool.Decides.{nat_tests}
use Rattle.std.proofs.lemmas.List.{length-map}
use Rattle.std.proofs.lemmas.List.Elements.{All-head, All-tail}
use Rattle.std.proofs.lemmas.Option.{get_or_from_slice_get, slice_get_past, slice_get_within}
use Rattle.std.proofs.str.Laws.{order}
use Rattle.std.specs.Prelude.{All, Option, Some, nat_eq, slice_get, slice_range, ⊤}
use Rattle.bl_tree.proofs.Basics.{some_within}
use Rattle.bl_tree.specs.declared.token.Token.{Token}
use Rattle.bl_tree.specs.declared.token.TokenKind.TheVariants.{Name as NameToken}
use Rattle.bl_lex.specs.Tokens.{Lexes}
use Rattle.bl_lex.proofs.RuleLaws.{tokens_inside}
use Rattle.bl_parse.specs.At.{end_at, end_of, kind_at, start_at, start_of}
use Rattle.bl_parse.specs.Operators.{begins_expr}
use Rattle.bl_parse.specs.Programs.{SpellsItems}
use Rattle.bl_parse.specs.Statements.{goes_on, takes_value}
use Rattle.bl_parse.proofs.ReturnLemmas.{token_at}
use Rattle.bl_parse_tree.specs.declared.item.RawItem.{RawItem}
use Rattle.bl_joined.proofs.Lines.{line_inside}
use Rattle.bl_joined.specs.Texts.{LexedText, joined_text, joined_tokens, line_feeds, moved_place, moved_token, texts_of, tokens_behind}
use Rattle.bl_joined.specs.Trees.{placed_item}
use Rattle.bl_joined_laws.specs.Items.{IsRead, ReadText, all_lexed, items_behind, joined_items}
use Rattle.bl_joined_laws.proofs.Bytes.{range}
use Rattle.bl_joined_laws.proofs.Moved.{Stands}
use Rattle.bl_joined_laws.proofs.MovedItem.{items}
use Rattle.bl_joined_laws.proofs.Joining.{feeds_more, further, more, size_more}

-- ---- elements of appended lists

get_first : {A B : Type 0} (f : A → B) (xs : List A) (ys : List B) (k : ℕ) (x : A) → slice_get xs k ≡ Some x → slice_get (map f xs ++ ys) k ≡ Some (f x)
get_first f [] ys k x is = cc
get_first f (y ∷ xs) ys zero x is = let same : y ≡ x = cc in ap (λ z. Some (f z)) same
get_first f (y ∷ xs) ys (suc k) x is = get_first f xs ys k x is

get_behind : {A : Type 0} (xs ys : List A) (j k : ℕ) → j ≡ length xs + k → slice_get (xs ++ ys) j ≡ slice_get ys k
get_behind [] ys j k is = let same : j ≡ k = omega (arith, is) in ap (slice_get ys) same
get_behind (x ∷ xs) ys zero k is = absurd (omega (arith, is))
get_behind (x ∷ xs) ys (suc j) k is = get_behind xs ys j k (omega (arith, is))

-- ---- lines

-- the first of the tokens is on no line before
Later : ℕ → List Token → Type 0
Later line [] = ⊤
Later line (one ∷ rest) = line ≤ one.line

later_none : (line : ℕ) → Later line []
unfolding Later
later_none line = tt

later_more : (a b : ℕ) (tokens : List Token) → a ≤ b → Later b tokens → Later a tokens
unfolding Later
later_more a b [] le h = tt
later_more a b (one ∷ rest) le h = omega (arith, le, h)

later_own : (offset line : ℕ) (tokens rest : List Token) → Later line rest → Later line (map (moved_token offset line) tokens ++ rest)
unfolding Later
later_own offset line [] rest h = h
later_own offset line (one ∷ tokens) rest h = omega arith

later_tokens : (offset line : ℕ) (files : List LexedText) → Later line (tokens_behind offset line files)
later_tokens offset line [] = later_none line
later_tokens offset line (file ∷ files) =
    let rest = tokens_behind (offset + length file.text + 1) (line + line_feeds file.text + 1) files in
    later_own offset line file.tokens rest
    (later_more line (line + line_feeds file.text + 1) rest (omega arith) (later_tokens (offset + length file.text + 1) (line + line_feeds file.text + 1) files))

-- ---- one text

same_sums : (l a b : ℕ) → nat_eq (l + a) (l + b) ≡ nat_eq a b
same_sums l a b = grind (arith, nat_tests)

lines_differ : (a b : ℕ) (c : Bool) → a < b → nat_eq a b && c ≡ false
lines_differ a b c less = grind (arith, nat_tests, less)

module _ (whole before text after : List ℕ) (all front tokens rest : List Token) (is : whole ≡ before ++ (text ++ 10 ∷ after))
    (are : all ≡ front ++ (map (moved_token (length before) (line_feeds before)) tokens ++ rest)) (lexes : Lexes text tokens)
    (later : Later (line_feeds before + line_feeds text + 1) rest) where
  there : (k : ℕ) (one : Token) → slice_get tokens k ≡ Some one →
      slice_get all (length front + k) ≡ Some (moved_token (length before) (line_feeds before) one)
  there k one at = ap (λ (ts : List Token). slice_get ts (length front + k)) are
      ∙ get_behind front (map (moved_token (length before) (line_feeds before)) tokens ++ rest) (length front + k) k refl
      ∙ get_first (moved_token (length before) (line_feeds before)) tokens rest k one at

  names : (k : ℕ) → kind_at tokens k ≡ Some NameToken →
      slice_range whole (length before + start_at tokens k) (length before + end_at tokens k) ≡ slice_range text (start_at tokens k) (end_at tokens k)
  names k named =
      let one = token_at tokens k named in
      let inside = slice_get_within tokens k one.0 one.1 in
      let places = tokens_inside text tokens lexes k one.0 inside in
      let same = get_or_from_slice_get tokens k one.0 one.0 one.1 in
      let start : start_at tokens k ≡ one.0.place.start = ap start_of one.1 in
      let end : end_at tokens k ≡ one.0.place.end = ap end_of one.1 in
      let ordered = subst (λ (t : Token). (t.place.start < t.place.end) × (t.place.end ≤ length text)) same places in
      range whole before text after is (start_at tokens k) (end_at tokens k) (omega (arith, start, end, ordered.0)) (omega (arith, end, ordered.1))

  -- what follows the last token is on a later line
  behind_last : (one : Token) (k : ℕ) → slice_get tokens k ≡ Some one → k + 1 ≡ length tokens →
      goes_on (Some (moved_token (length before) (line_feeds before) one)) (slice_get all (length front + k + 1)) ≡ false
  unfolding Later
  behind_last one k at last = ap (goes_on (Some (moved_token (length before) (line_feeds before) one))) next ∙ by_rest rest later
    where
      next : slice_get all (length front + k + 1) ≡ slice_get rest 0
      next = ap (λ (ts : List Token). slice_get ts (length front + k + 1)) are
          ∙ get_behind front (map (moved_token (length before) (line_feeds before)) tokens ++ rest) (length front + k + 1) (k + 1) (omega arith)
          ∙ get_behind (map (moved_token (length before) (line_feeds before)) tokens) rest (k + 1) 0 (rw length-map (omega (arith, last)))

      by_rest : (rest : List Token) → Later (line_feeds before + line_feeds text + 1) rest →
          goes_on (Some (moved_token (length before) (line_feeds before) one)) (slice_get rest 0) ≡ false
      by_rest [] l = refl
      by_rest (first ∷ others) l = let own = line_inside text tokens lexes k one at in
          lines_differ (line_feeds before + one.line) first.line (begins_expr first.kind) (omega (arith, l, own))

  values : (k : ℕ) → k < length tokens → takes_value all (length front + k) ≡ takes_value tokens k
  values k inside = let one = some_within tokens k inside in
      ap (λ (o : Option Token). goes_on o (slice_get all (length front + k + 1))) (there k one.0 one.1)
      ∙ (with_next one.0 one.1 ∙ sym (ap (λ (o : Option Token). goes_on o (slice_get tokens (k + 1))) one.1))
    where
      with_next : (one : Token) → slice_get tokens k ≡ Some one →
          goes_on (Some (moved_token (length before) (line_feeds before) one)) (slice_get all (length front + k + 1)) ≡ goes_on (Some one) (slice_get tokens (k + 1))
      with_next one at = ⊎_elim
          (λ less. let next = some_within tokens (k + 1) less in
          let position : length front + k + 1 ≡ length front + (k + 1) = omega arith in
          ap (goes_on (Some (moved_token (length before) (line_feeds before) one))) (ap (slice_get all) position ∙ there (k + 1) next.0 next.1)
          ∙ ap (λ b. b && begins_expr next.0.kind) (same_sums (line_feeds before) one.line next.0.line)
          ∙ sym (ap (goes_on (Some one)) next.1))
          (λ more. behind_last one k at (omega (arith, more, inside)) ∙ sym (ap (goes_on (Some one)) (slice_get_past tokens (k + 1) more)))
          (order (k + 1) (length tokens))

  stands : Stands text whole tokens all (length before) (length front)
  stands = record { lines = line_feeds before; there = there; names = names; values = values }

-- ---- all texts

-- the rest of the items is spelled behind those before
spelled_from : (whole before : List ℕ) (all front : List Token) (spelled : List RawItem) (files : List ReadText) →
    whole ≡ before ++ joined_text (texts_of (all_lexed files)) → all ≡ front ++ tokens_behind (length before) (line_feeds before) (all_lexed files) →
    SpellsItems whole all spelled 0 (length front) → All IsRead files →
    SpellsItems whole all (spelled ++ items_behind (length before) files) 0 (length all)
spelled_from whole before all front spelled [] is are h each =
    subst (λ k. SpellsItems whole all (spelled ++ []) 0 k) (sym (ap length (are ∙ append-nil front)))
    (subst (λ (xs : List RawItem). SpellsItems whole all xs 0 (length front)) (sym (append-nil spelled)) h)
spelled_from whole before all front spelled (file ∷ files) is are h each =
    let own : IsRead file = All-head IsRead file files each in
    let after = joined_text (texts_of (all_lexed files)) in
    let rest = tokens_behind (length before + length file.text + 1) (line_feeds before + line_feeds file.text + 1) (all_lexed files) in
    let there = stands whole before file.text after all front file.tokens rest is are own.lexes
    (later_tokens (length before + length file.text + 1) (line_feeds before + line_feeds file.text + 1) (all_lexed files)) in
    let own_tokens = map (moved_token (length before) (line_feeds before)) file.tokens in
    let own_items = map (placed_item (moved_place (length before))) file.items in
    let size : length (front ++ own_tokens) ≡ length front + length file.tokens =
    length-append front own_tokens ∙ ap (λ k. length front + k) (length-map file.tokens (moved_token (length before) (line_feeds before))) in
    let here : SpellsItems whole all (spelled ++ own_items) 0 (length (front ++ own_tokens)) =
    subst (λ k. SpellsItems whole all (spelled ++ own_items) 0 k) (sym size) (items there h own.spells refl) in
    let rest_tokens : tokens_behind (length (more before file.text)) (line_feeds (more before file.text)) (all_lexed files) ≡ rest =
    ap (λ k. tokens_behind k (line_feeds (more before file.text)) (all_lexed files)) (size_more before file.text)
    ∙ ap (λ k. tokens_behind (length before + length file.text + 1) k (all_lexed files)) (feeds_more before file.text) in
    let further_tokens : all ≡ (front ++ own_tokens) ++ tokens_behind (length (more before file.text)) (line_feeds (more before file.text)) (all_lexed files) =
    are ∙ sym (append_assoc front own_tokens rest) ∙ ap (λ (ts : List Token). (front ++ own_tokens) ++ ts) (sym rest_tokens) in
    let whole_items = spelled_from whole (more before file.text) all (front ++ own_tokens) (spelled ++ own_items) files
    (further before file.text whole after is) further_tokens here (All-tail IsRead file files each) in
    subst (λ (xs : List RawItem). SpellsItems whole all xs 0 (length all))
    (append_assoc spelled own_items (items_behind (length (more before file.text)) files)
    ∙ ap (λ k. spelled ++ (own_items ++ items_behind k files)) (size_more before file.text))
    whole_items

pub joined_spells : (files : List ReadText) → All IsRead files →
    SpellsItems (joined_text (texts_of (all_lexed files))) (joined_tokens (all_lexed files)) (joined_items files) 0 (length (joined_tokens (all_lexed files)))
joined_spells files each = spelled_from (joined_text (texts_of (all_lexed files))) [] (joined_tokens (all_lexed files)) [] [] files refl refl
    (SpellsItems.none refl refl) each
