-- The joined tokens are nowhere too deep where those of each text aren't: a text closes its blocks, and an item begins a run.
use Rattle.std.proofs.Common.{◌≡◌, ℕ, zero, suc, ◌+◌, ◌-◌, ◌<◌, ◌≤◌, Bool, true, not, List, [], ◌∷◌, ◌++◌, ◌⊎◌, inl, inr, ⊎_elim, length, map, take}
use Rattle.std.proofs.Common.{refl, ap, sym, ◌∙◌, subst, arith}
use Rattle.std.proofs.Math.Seq.{take-append-add}
use Rattle.std.proofs.lemmas.List.{length-map, take-append-le}
use Rattle.std.proofs.lemmas.List.Elements.{All-head, All-tail}
use Rattle.std.proofs.str.Laws.{order}
use Rattle.std.specs.Prelude.{All, Option, Some, None, ⊤}
use Rattle.bl_tree.specs.declared.token.Keyword.{Keyword}
use Rattle.bl_tree.specs.declared.token.Token.{Token}
use Rattle.bl_tree.specs.declared.token.TokenKind.{TokenKind}
use Rattle.bl_tree.specs.declared.token.TokenKind.TheVariants.{Sign, Word}
use Rattle.bl_tree.specs.declared.tree.UnitKind.{UnitKind}
use Rattle.bl_lex.specs.declared.sign.TheConstants.{AT}
use Rattle.bl_tree.specs.declared.token.Keyword.TheVariants as keyword
use Rattle.bl_parse_syntax.specs.Depth.{begins_run, blocks_after, is_inner_word, open_after, run_after, run_with}
use Rattle.bl_parse_syntax.specs.inner.Depth.{last_kind}
use Rattle.bl_parse_syntax.specs.Rules.{Passes, PassesDepth}
use Rattle.bl_parse.specs.At.{kind_at}
use Rattle.bl_parse.specs.Programs.{IsUnit, SpellsItem, SpellsItems, SpellsMark}
use Rattle.bl_parse_laws.proofs.Programs.{spells_program}
use Rattle.bl_parse_tree.specs.declared.item.RawItem.{RawItem}
use Rattle.bl_joined.specs.Texts.{joined_text, joined_tokens, line_feeds, moved_token, texts_of, tokens_behind}
use Rattle.bl_joined_laws.specs.Items.{IsRead, ReadText, all_lexed, joined_items}
use Rattle.bl_joined_laws.proofs.Reach.{items, opens}
use Rattle.bl_joined_laws.proofs.Trees.{joined_spells}
use Rattle.bl_parse_laws.proofs.Counts.{at_most}

-- ---- lists of tokens, one after another

open_both : (blocks : ℕ) (xs ys : List Token) → open_after blocks (xs ++ ys) ≡ open_after (open_after blocks xs) ys
open_both blocks [] ys = refl
open_both blocks (x ∷ xs) ys = open_both (blocks_after blocks x.kind) xs ys

run_both : (run : ℕ) (before : Option TokenKind) (xs ys : List Token) →
    run_after run before (xs ++ ys) ≡ run_after (run_after run before xs) (last_kind before xs) ys
run_both run before [] ys = refl
run_both run before (x ∷ xs) ys = run_both (run_with run before x.kind) (Some x.kind) xs ys

open_moved : (n lines blocks : ℕ) (tokens : List Token) (k : ℕ) →
    open_after blocks (take k (map (moved_token n lines) tokens)) ≡ open_after blocks (take k tokens)
open_moved n lines blocks tokens zero = refl
open_moved n lines blocks [] (suc k) = refl
open_moved n lines blocks (x ∷ tokens) (suc k) = open_moved n lines (blocks_after blocks x.kind) tokens k

run_moved : (n lines run : ℕ) (before : Option TokenKind) (tokens : List Token) (k : ℕ) →
    run_after run before (take k (map (moved_token n lines) tokens)) ≡ run_after run before (take k tokens)
run_moved n lines run before tokens zero = refl
run_moved n lines run before [] (suc k) = refl
run_moved n lines run before (x ∷ tokens) (suc k) = run_moved n lines (run_with run before x.kind) (Some x.kind) tokens k

all_taken : (xs : List Token) → take (length xs) xs ≡ xs
all_taken [] = refl
all_taken (x ∷ xs) = ap (λ ts. x ∷ ts) (all_taken xs)

-- the first token begins a run, whatever stands before it
Begins : List Token → Type 0
Begins [] = ⊤
Begins (x ∷ xs) = (before : Option TokenKind) → begins_run before x.kind ≡ true

with_begun : (run : ℕ) (before : Option TokenKind) (kind : TokenKind) → begins_run before kind ≡ true → run_with run before kind ≡ 0
with_begun run before kind is = rw is refl

-- so the tokens before don't count
run_anew : (run : ℕ) (before : Option TokenKind) (tokens : List Token) (k : ℕ) → Begins tokens → run ≤ 200 →
    run_after 0 None (take k tokens) ≤ 200 → run_after run before (take k tokens) ≤ 200
unfolding Begins
run_anew run before tokens zero b few short = few
run_anew run before [] (suc k) b few short = few
run_anew run before (x ∷ tokens) (suc k) b few short =
    subst (λ n. n ≤ 200) (ap (λ r. run_after r (Some x.kind) (take k tokens))
    (with_begun 0 None x.kind (b None) ∙ sym (with_begun run before x.kind (b before)))) short

record Sound (tokens : List Token) : Type 0 where
  closes : open_after 0 tokens ≡ 0
  begins : Begins tokens
  blocks : (k : ℕ) → open_after 0 (take k tokens) ≤ 100
  run : (k : ℕ) → run_after 0 None (take k tokens) ≤ 200

-- behind a run of at most 200 the tokens are nowhere too deep
record Shallow (tokens : List Token) : Type 0 where
  blocks : (k : ℕ) → open_after 0 (take k tokens) ≤ 100
  run : (run : ℕ) (before : Option TokenKind) → run ≤ 200 → (k : ℕ) → run_after run before (take k tokens) ≤ 200

whole_take : (n lines : ℕ) (tokens : List Token) →
    take (length (map (moved_token n lines) tokens)) (map (moved_token n lines) tokens) ≡ map (moved_token n lines) tokens
whole_take n lines [] = refl
whole_take n lines (x ∷ tokens) = ap (λ ts. moved_token n lines x ∷ ts) (whole_take n lines tokens)

module _ (n lines : ℕ) (tokens rest : List Token) (sound : Sound tokens) (shallow : Shallow rest) where
  own : List Token
  own = map (moved_token n lines) tokens

  own_open : (k : ℕ) → open_after 0 (take k own) ≤ 100
  unfolding own
  own_open k = subst (λ m. m ≤ 100) (sym (open_moved n lines 0 tokens k)) (sound.blocks k)

  own_run : (run : ℕ) (before : Option TokenKind) → run ≤ 200 → (k : ℕ) → run_after run before (take k own) ≤ 200
  unfolding own
  own_run run before few k = subst (λ m. m ≤ 200) (sym (run_moved n lines run before tokens k)) (run_anew run before tokens k sound.begins few (sound.run k))

  own_closes : open_after 0 own ≡ 0
  unfolding own
  own_closes = ap (open_after 0) (sym (whole_take n lines tokens)) ∙ open_moved n lines 0 tokens (length (map (moved_token n lines) tokens))
      ∙ ap (λ k. open_after 0 (take k tokens)) (length-map tokens (moved_token n lines)) ∙ ap (open_after 0) (all_taken tokens) ∙ sound.closes

  own_whole_run : (run : ℕ) (before : Option TokenKind) → run ≤ 200 → run_after run before own ≤ 200
  unfolding own
  own_whole_run run before few = subst (λ (ts : List Token). run_after run before ts ≤ 200) (whole_take n lines tokens)
      (own_run run before few (length (map (moved_token n lines) tokens)))

  blocks_at : (k : ℕ) → open_after 0 (take k (own ++ rest)) ≤ 100
  blocks_at k = ⊎_elim
      (λ less. subst (λ (ts : List Token). open_after 0 ts ≤ 100) (sym (take-append-le k own rest (omega (arith, less)))) (own_open k))
      (λ more. let split : k ≡ length own + (k - length own) = omega (arith, more) in
      subst (λ m. m ≤ 100) (sym (ap (λ j. open_after 0 (take j (own ++ rest))) split
      ∙ ap (open_after 0) (take-append-add own rest (k - length own)) ∙ open_both 0 own (take (k - length own) rest)
      ∙ ap (λ b. open_after b (take (k - length own) rest)) own_closes))
      (shallow.blocks (k - length own)))
      (order k (length own))

  run_at : (run : ℕ) (before : Option TokenKind) → run ≤ 200 → (k : ℕ) → run_after run before (take k (own ++ rest)) ≤ 200
  run_at run before few k = ⊎_elim
      (λ less. subst (λ (ts : List Token). run_after run before ts ≤ 200) (sym (take-append-le k own rest (omega (arith, less)))) (own_run run before few k))
      (λ more. let split : k ≡ length own + (k - length own) = omega (arith, more) in
      subst (λ m. m ≤ 200) (sym (ap (λ j. run_after run before (take j (own ++ rest))) split
      ∙ ap (run_after run before) (take-append-add own rest (k - length own)) ∙ run_both run before own (take (k - length own) rest)))
      (shallow.run (run_after run before own) (last_kind before own) (own_whole_run run before few) (k - length own)))
      (order k (length own))

  both_shallow : Shallow (map (moved_token n lines) tokens ++ rest)
  unfolding own
  both_shallow = record { blocks = blocks_at; run = run_at }

-- ---- a text's own tokens

begins_word : (k : Keyword) → not (is_inner_word k) ≡ true → (before : Option TokenKind) → begins_run before (Word k) ≡ true
begins_word k is None = is
begins_word k is (Some p) = is

begins_mark : (before : Option TokenKind) → begins_run before (Sign AT) ≡ true
begins_mark None = refl
begins_mark (Some p) = refl

unit_word : {kind : TokenKind} {of : UnitKind} → IsUnit kind of → (before : Option TokenKind) → begins_run before kind ≡ true
unit_word IsUnit.function before = begins_word keyword.Function refl before
unit_word IsUnit.activity before = begins_word keyword.Activity refl before

-- the token at a position begins a run
record BeginsAt (tokens : List Token) (k : ℕ) : Type 0 where
  kind : TokenKind
  stands : kind_at tokens k ≡ Some kind
  begins : (before : Option TokenKind) → begins_run before kind ≡ true

marked : {tokens : List Token} {entry : Bool} {from to : ℕ} → SpellsMark tokens entry from to → BeginsAt tokens to → BeginsAt tokens from
marked {tokens} (SpellsMark.absent off is) b = subst (BeginsAt tokens) is b
marked (SpellsMark.written on at opening n closing) b = record { kind = _; stands = at.stands; begins = begins_mark }

module _ {text : List ℕ} {tokens : List Token} where
  item_begins : {one : RawItem} {from to : ℕ} → SpellsItem text tokens one from to → BeginsAt tokens from
  item_begins (SpellsItem.structure s is) = record { kind = _; stands = s.word.stands; begins = begins_word keyword.Struct refl }
  item_begins (SpellsItem.constant c is) = record { kind = _; stands = c.word.stands; begins = begins_word keyword.Const refl }
  item_begins (SpellsItem.unit u is) = marked u.mark (record { kind = _; stands = u.kind.token.stands; begins = unit_word u.kind.is })

  items_begin : {list : List RawItem} {from to : ℕ} → SpellsItems text tokens list from to → from < to → BeginsAt tokens from
  items_begin (SpellsItems.none nothing is) some = absurd (omega (arith, is))
  items_begin (SpellsItems.more {from = from} {m = m} others one is) some = ⊎_elim (λ less. items_begin others less)
      (λ more. let same : m ≡ from = omega (arith, more, (items others).forward) in subst (BeginsAt tokens) same (item_begins one))
      (order from m)

at_first : (tokens : List Token) → (0 < length tokens → BeginsAt tokens 0) → Begins tokens
unfolding Begins
at_first [] b = tt
at_first (x ∷ tokens) b = let first = b (omega arith) in
    let same : x.kind ≡ first.kind = kind_is first.kind first.stands in
    λ before. ap (begins_run before) same ∙ first.begins before
  where
    kind_is : (kind : TokenKind) → Some x.kind ≡ Some kind → x.kind ≡ kind
    kind_is kind e = cc

sound : (file : ReadText) → IsRead file → PassesDepth file.tokens → Sound file.tokens
unfolding opens
sound file h passes = record {
  closes = ap (open_after 0) (sym (all_taken file.tokens)) ∙ (items h.spells).same;
  begins = at_first file.tokens (items_begin h.spells);
  blocks = λ k. at_most _ _ (λ more. passes k (inl more));
  run = λ k. at_most _ _ (λ more. passes k (inr more));
}

-- ---- all texts

none_shallow : Shallow []
none_shallow = record { blocks = none_open; run = none_run }
  where
    none_open : (k : ℕ) → open_after 0 (take k []) ≤ 100
    none_open zero = omega arith
    none_open (suc k) = omega arith

    none_run : (run : ℕ) (before : Option TokenKind) → run ≤ 200 → (k : ℕ) → run_after run before (take k []) ≤ 200
    none_run run before few zero = few
    none_run run before few (suc k) = few

all_shallow : (offset lines : ℕ) (files : List ReadText) → All IsRead files → All (λ file. PassesDepth file.tokens) files →
    Shallow (tokens_behind offset lines (all_lexed files))
all_shallow offset lines [] each deep = none_shallow
all_shallow offset lines (file ∷ files) each deep =
    both_shallow offset lines file.tokens _
    (sound file (All-head IsRead file files each) (All-head (λ file. PassesDepth file.tokens) file files deep))
    (all_shallow (offset + length file.text + 1) (lines + line_feeds file.text + 1) files
    (All-tail IsRead file files each) (All-tail (λ file. PassesDepth file.tokens) file files deep))

joined_depth : (files : List ReadText) → All IsRead files → All (λ file. PassesDepth file.tokens) files → PassesDepth (joined_tokens (all_lexed files))
joined_depth files each deep n = let all = all_shallow 0 0 files each deep in
    let few = all.blocks n in let short = all.run 0 None (omega arith) n in
    ⊎_elim (λ more. omega (arith, more, few)) (λ more. omega (arith, more, short))

pub joined_passes : (files : List ReadText) → All IsRead files → All (λ file. PassesDepth file.tokens) files → Passes (joined_tokens (all_lexed files))
joined_passes files each deep = record {
  depth = joined_depth files each deep;
  syntax = spells_program (joined_text (texts_of (all_lexed files))) (joined_tokens (all_lexed files))
      (record { items = joined_items files; bytes = length (joined_text (texts_of (all_lexed files))) })
      (record { items = joined_spells files each; bytes = refl });
}
