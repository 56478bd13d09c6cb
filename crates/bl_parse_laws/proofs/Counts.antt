-- How the counts of rule Depth go on from token to token.
use Rattle.std.proofs.Common.{◌≡◌, ℕ, zero, suc, ◌+◌, ◌-◌, ◌<◌, ◌≤◌, Bool, true, false, cond, not, ◌&&◌, ◌||◌, List, [], ◌∷◌, ◌++◌, take, refl, ap, sym, ◌∙◌}
use Rattle.std.proofs.Common.{arith, ◌⊎◌, inl, inr}
use Rattle.std.specs.Prelude.{Option, Some, None, slice_get, option_map, nat_eq}
use Rattle.std.proofs.lemmas.Bool.{not-true}
use Rattle.bl_tree.specs.declared.token.Token.{Token}
use Rattle.bl_tree.specs.declared.token.TokenKind.{TokenKind}
use Rattle.bl_tree.specs.declared.token.TokenKind.TheVariants.{Name, Number, Word, Sign}
use Rattle.bl_lex.specs.declared.sign.TheConstants.{ASSIGN, AT}
use Rattle.bl_tree.specs.declared.token.Keyword.TheVariants as keyword
use Rattle.bl_tree.specs.Keywords.{same_word}
use Rattle.bl_parse_syntax.specs.Depth.{is_word_of, opening_words, blocks_after, is_counted, is_last, is_inner_word, begins_run, run_with}
use Rattle.bl_parse_syntax.specs.Depth.{open_after, run_after}
use Rattle.bl_parse_syntax.specs.inner.Depth.{last_kind}
use Rattle.bl_parse_syntax.specs.Rules.{PassesDepth}
use Rattle.bl_parse_syntax.proofs.Depths.{open_next, last_next, run_next}
use Rattle.bl_parse.specs.At.{Takes}
use Rattle.bl_parse.proofs.ReturnLemmas.{token_at}
use Rattle.bl_parse.proofs.ReadLemmas.{same_some}
use Rattle.bl_parse_laws.proofs.Spans.{position}

-- the blocks that are open before the token at a position
pub open_at : List Token → ℕ → ℕ
open_at tokens k = open_after 0 (take k tokens)

-- the operators and opening brackets of the run before the token at a position
pub run_at : List Token → ℕ → ℕ
run_at tokens k = run_after 0 None (take k tokens)

-- the kind of the token before a position
before_at : List Token → ℕ → Option TokenKind
before_at tokens k = last_kind None (take k tokens)

pub take_more : (tokens : List Token) (k : ℕ) (one : Token) → slice_get tokens k ≡ Some one → take (suc k) tokens ≡ take k tokens ++ one ∷ []
take_more [] k one e = cc
take_more (x ∷ xs) zero one e = ap (λ t. t ∷ []) (same_some e)
take_more (x ∷ xs) (suc k) one e = ap (λ ts. x ∷ ts) (take_more xs k one e)

-- the tokens before a position, with the one there
record Front (tokens : List Token) (kind : TokenKind) (from to : ℕ) : Type 0 where
  pub one : Token
  pub kind_is : one.kind ≡ kind
  pub front_is : take to tokens ≡ take from tokens ++ one ∷ []

front : {tokens : List Token} {kind : TokenKind} {from to : ℕ} → Takes tokens kind from to → Front tokens kind from to
front {tokens} {from = from} t = let o = token_at tokens from t.stands in
    record {
      one = o.0;
      kind_is = same_some (sym (ap (option_map (λ token. token.kind)) o.1) ∙ t.stands);
      front_is = ap (λ k. take k tokens) (position t.next) ∙ take_more tokens from o.0 o.1;
    }

open_step : {tokens : List Token} {kind : TokenKind} {from to : ℕ} → Takes tokens kind from to →
    open_at tokens to ≡ blocks_after (open_at tokens from) kind
unfolding open_at
open_step {tokens} {from = from} t = let f = front t in
    ap (open_after 0) f.front_is ∙ (open_next 0 (take from tokens) f.one ∙ ap (blocks_after (open_at tokens from)) f.kind_is)

run_step : {tokens : List Token} {kind : TokenKind} {from to : ℕ} → Takes tokens kind from to →
    run_at tokens to ≡ run_with (run_at tokens from) (before_at tokens from) kind
unfolding run_at before_at
run_step {tokens} {from = from} t = let f = front t in
    ap (run_after 0 None) f.front_is ∙ (run_next 0 None (take from tokens) f.one ∙ ap (run_with (run_at tokens from) (before_at tokens from)) f.kind_is)

before_step : {tokens : List Token} {kind : TokenKind} {from to : ℕ} → Takes tokens kind from to → before_at tokens to ≡ Some kind
unfolding before_at
before_step {tokens} {from = from} t = let f = front t in
    ap (last_kind None) f.front_is ∙ (last_next None (take from tokens) f.one ∙ ap Some f.kind_is)

-- ---- blocks

-- the token opens and closes no block
abbrev pub is_level : TokenKind → Bool
is_level (Word k) = not (is_word_of opening_words k) && not (same_word k keyword.End)
is_level _ = true

-- the token opens a block
abbrev pub is_opening : TokenKind → Bool
is_opening (Word k) = is_word_of opening_words k
is_opening _ = false

pub levels : (n : ℕ) (kind : TokenKind) → is_level kind ≡ true → blocks_after n kind ≡ n
levels n Name level = refl
levels n (Number v) level = refl
levels n (Sign k) level = refl
levels n (Word k) level = by_tests (is_word_of opening_words k) (same_word k keyword.End) level
  where
    by_tests : (opens ends : Bool) → (not opens && not ends) ≡ true → cond opens (n + 1) (cond ends (n - 1) n) ≡ n
    by_tests false false level = refl
    by_tests false true level = cc
    by_tests true ends level = cc

pub level : {tokens : List Token} {kind : TokenKind} {from to : ℕ} → Takes tokens kind from to → is_level kind ≡ true →
    open_at tokens to ≡ open_at tokens from
level {tokens} {kind} {from} t is = open_step t ∙ levels (open_at tokens from) kind is

pub opened : (n : ℕ) (kind : TokenKind) → is_opening kind ≡ true → blocks_after n kind ≡ n + 1
opened n Name is = cc
opened n (Number v) is = cc
opened n (Sign k) is = cc
opened n (Word k) is = rw is refl

pub opens : {tokens : List Token} {kind : TokenKind} {from to : ℕ} → Takes tokens kind from to → is_opening kind ≡ true →
    open_at tokens to ≡ open_at tokens from + 1
opens {tokens} {kind} {from} t is = open_step t ∙ opened (open_at tokens from) kind is

pub closes : {tokens : List Token} {from to : ℕ} → Takes tokens (Word keyword.End) from to → open_at tokens to ≡ open_at tokens from - 1
closes t = open_step t

-- ---- runs

-- the token goes on with a run, whatever stands before it
abbrev pub is_inner : TokenKind → Bool
is_inner Name = false
is_inner (Number v) = true
is_inner (Word k) = is_inner_word k
is_inner (Sign k) = not (nat_eq k ASSIGN || nat_eq k AT)

inner : (before : Option TokenKind) (kind : TokenKind) → is_inner kind ≡ true → begins_run before kind ≡ false
inner before Name is = cc
inner None (Number v) is = refl
inner (Some p) (Number v) is = refl
inner None (Word k) is = rw is refl
inner (Some p) (Word k) is = rw is refl
inner None (Sign k) is = not-true _ is
inner (Some p) (Sign k) is = not-true _ is

run_of : (run : ℕ) (before : Option TokenKind) (kind : TokenKind) (starts counted : Bool) → begins_run before kind ≡ starts →
    is_counted kind ≡ counted → run_with run before kind ≡ cond starts 0 (cond counted (run + 1) run)
run_of run before kind starts counted is also = rw (is, also) refl

pub counts : {tokens : List Token} {kind : TokenKind} {from to : ℕ} → Takes tokens kind from to → is_inner kind ≡ true →
    is_counted kind ≡ true → run_at tokens to ≡ run_at tokens from + 1
counts {tokens} {kind} {from} t is also = run_step t
    ∙ run_of (run_at tokens from) (before_at tokens from) kind false true (inner (before_at tokens from) kind is) also

pub keeps : {tokens : List Token} {kind : TokenKind} {from to : ℕ} → Takes tokens kind from to → is_inner kind ≡ true →
    is_counted kind ≡ false → run_at tokens to ≡ run_at tokens from
keeps {tokens} {kind} {from} t is also = run_step t
    ∙ run_of (run_at tokens from) (before_at tokens from) kind false false (inner (before_at tokens from) kind is) also

-- what the run has, at least, at a position and behind a name there
pub record Base (tokens : List Token) (from base : ℕ) : Type 0 where
  pub low : base ≤ run_at tokens from
  pub named : (to : ℕ) → Takes tokens Name from to → base ≤ run_at tokens to

pub from_nothing : {tokens : List Token} {from : ℕ} → Base tokens from 0
from_nothing = record { low = omega arith; named = λ to t. omega arith }

-- a name begins no run behind a token that no expression ends with
pub behind : {tokens : List Token} {kind : TokenKind} {before from : ℕ} → Takes tokens kind before from → is_last kind ≡ false →
    Base tokens from (run_at tokens from)
behind {tokens} {kind} {from = from} t is = record {
  low = omega arith;
  named = λ to name. let same = run_step name ∙ run_of (run_at tokens from) (before_at tokens from) Name false false
      (ap (λ b. begins_run b Name) (before_step t) ∙ is) refl in
      omega (arith, same);
}

-- ---- limits

-- rule Depth, at each position
pub record Limits (tokens : List Token) : Type 0 where
  pub blocks : (k : ℕ) → open_at tokens k ≤ 100
  pub run : (k : ℕ) → run_at tokens k ≤ 200

pub at_most : (n limit : ℕ) → ¬ (limit < n) → n ≤ limit
at_most n limit never = by_order (order n limit)
  where
    order : (n limit : ℕ) → (n ≤ limit) ⊎ (limit < n)
    order n limit = grind arith

    by_order : (n ≤ limit) ⊎ (limit < n) → n ≤ limit
    by_order (inl le) = le
    by_order (inr more) = absurd (never more)

pub limits : (tokens : List Token) → PassesDepth tokens → Limits tokens
unfolding open_at run_at
limits tokens passes = record {
  blocks = λ k. at_most _ _ (λ more. passes k (inl more));
  run = λ k. at_most _ _ (λ more. passes k (inr more));
}
