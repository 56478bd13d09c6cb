-- What a `return` has after it.
use Rattle.std.proofs.Common.{◌≡◌, ℕ, zero, suc, ◌+◌, Bool, true, false, not, cond, ◌&&◌, ◌||◌, List, [], ◌∷◌, ◌++◌, drop, refl, ap, sym, ◌∙◌, subst, arith}
use Rattle.std.specs.Prelude.{Option, Some, None, slice_get, option_map, nat_eq}
use Rattle.bl_tree.proofs.Basics.{number_test_swap}
use Rattle.bl_tree.proofs.KeywordLemmas.{same_word_swap}
use Rattle.bl_tree.specs.declared.token.Token.{Token}
use Rattle.bl_tree.specs.declared.token.TokenKind.{TokenKind}
use Rattle.bl_tree.specs.declared.token.TokenKind.TheVariants.{Name, Number, Word, Sign}
use Rattle.bl_tree.specs.declared.token.Keyword.TheVariants as keyword
use Rattle.bl_tree.specs.Keywords.{same_word}
use Rattle.bl_lex.specs.declared.sign.TheConstants.{OPEN_PAREN, MINUS, TILDE}
use Rattle.bl_parse_syntax.specs.declared.grammar.TokenView.{TokenView}
use Rattle.bl_parse_syntax.specs.declared.grammar.Part.TheVariants.{AfterReturn, Expr}
use Rattle.bl_parse_syntax.specs.Grammar.{Piece, the, class_of, view_of, views_after, expression_starts}
use Rattle.bl_parse_syntax.specs.Follow.{statement_starts}
use Rattle.bl_parse_syntax.specs.Tables.{has, starts, absent, choices, or_absent, pick}
use Rattle.bl_parse_syntax.specs.Expects.{Expects}
use Rattle.bl_parse_syntax.proofs.Expecting.{expects_production, expects_absent}
use Rattle.bl_parse.specs.At.{kind_at}
use Rattle.bl_parse.specs.Operators.{begins_expr}
use Rattle.bl_parse.specs.inner.Reading.{left, next_among, Turns}
use Rattle.bl_parse.specs.Statements.{begins_stmt, goes_on, takes_value}

pub four : (a b c d : Bool) → a || (b || (c || d)) ≡ a || (b || (c || (d || false)))
four true b c d = refl
four false true c d = refl
four false false true d = refl
four false false false true = refl
four false false false false = refl

pub three : (a b c : Bool) → a || (b || c) ≡ b || (c || (a || false))
three true true c = refl
three true false true = refl
three true false false = refl
three false true c = refl
three false false true = refl
three false false false = refl

begins_is : (kind : TokenKind) → begins_expr kind ≡ has expression_starts (class_of kind)
begins_is Name = refl
begins_is (Number n) = refl
begins_is (Word k) = rw (same_word_swap k keyword.Not, same_word_swap k keyword.True, same_word_swap k keyword.False, same_word_swap k keyword.Prev)
    (four (same_word keyword.Not k) (same_word keyword.True k) (same_word keyword.False k) (same_word keyword.Prev k))
begins_is (Sign k) = rw (number_test_swap k OPEN_PAREN, number_test_swap k MINUS, number_test_swap k TILDE) (three (nat_eq OPEN_PAREN k) (nat_eq MINUS k) (nat_eq TILDE k))

after_return : (v : TokenView) → pick AfterReturn v ≡ or_absent true
    (cond (not v.fresh) (cond (has expression_starts v.class) (Some (the Expr ∷ [])) None) None)
unfolding pick absent choices starts
after_return v = refl

head_of : List Token → Option Token
head_of [] = None
head_of (x ∷ xs) = Some x

get_head : (k : ℕ) (tokens : List Token) → slice_get tokens k ≡ head_of (drop k tokens)
unfolding head_of
get_head zero [] = refl
get_head zero (x ∷ xs) = refl
get_head (suc k) [] = refl
get_head (suc k) (x ∷ xs) = get_head k xs

pub views_from : (before : Option ℕ) (tokens : List Token) (k : ℕ) (one : Token) → slice_get tokens k ≡ Some one
    → drop (suc k) (views_after before tokens) ≡ views_after (Some one.line) (drop (suc k) tokens)
views_from before [] k one e = cc
views_from before (x ∷ xs) zero one e = ap (λ line. views_after (Some line) xs) (same_line e)
  where
    same_line : Some x ≡ Some one → x.line ≡ one.line
    same_line e = cc
views_from before (x ∷ xs) (suc k) one e = views_from (Some x.line) xs k one e

-- the production by its two tests
chosen_by : (same on : Bool) (p : List Piece) → or_absent true (cond (not (not same)) (cond on (Some (the Expr ∷ [])) None) None)
    ≡ Some p → p ≡ cond (same && on) (the Expr ∷ []) []
chosen_by true true p e = cc
chosen_by true false p e = cc
chosen_by false on p e = cc

expected : (one : Token) (ds : List Token) (rest : List Piece) → Expects (the AfterReturn ∷ rest) (views_after (Some one.line) ds)
    → Expects (cond (goes_on (Some one) (head_of ds)) (the Expr ∷ []) [] ++ rest) (views_after (Some one.line) ds)
unfolding head_of
expected one [] rest e = (expects_absent AfterReturn rest e).1
expected one (x ∷ xs) rest e =
    let h = expects_production AfterReturn rest (view_of (Some one.line) x) (views_after (Some x.line) xs) e in
    subst (λ p. Expects (p ++ rest) (views_after (Some one.line) (x ∷ xs)))
    (chosen_by (nat_eq one.line x.line) (has expression_starts (class_of x.kind)) h.0
    (sym (after_return (view_of (Some one.line) x)) ∙ h.1)
    ∙ ap (λ b. cond (nat_eq one.line x.line && b) (the Expr ∷ []) []) (sym (begins_is x.kind))) h.2

stands_by : (tokens : List Token) (k : ℕ) (b : Bool) (found : Option Token) → slice_get tokens k ≡ found →
    takes_value tokens k ≡ b → (goal : Type 0)
    → ((one : Token) → slice_get tokens k ≡ Some one → goes_on (Some one) (head_of (drop (suc k) tokens)) ≡ b → goal) →
    (slice_get tokens k ≡ None → goal) → goal
stands_by tokens k b None is e goal some none = none is
stands_by tokens k b (Some one) is e goal some none = some one is
    (ap (goes_on (Some one)) (sym (get_head (suc k) tokens))
    ∙ (ap (λ o. goes_on o (slice_get tokens (suc k))) (sym is) ∙ (ap (λ n. goes_on (slice_get tokens k) (slice_get tokens n)) (one_more k) ∙ e)))
  where
    one_more : (k : ℕ) → suc k ≡ k + 1
    one_more k = omega arith

turns_by : (tokens : List Token) (k : ℕ) (b : Bool) (one : Token) (rest : List Piece) → slice_get tokens k ≡ Some one →
    goes_on (Some one) (head_of (drop (suc k) tokens)) ≡ b
    → Expects (the AfterReturn ∷ rest) (left tokens (suc k)) → Expects (cond b (the Expr ∷ []) [] ++ rest) (left tokens (suc k))
turns_by tokens k b one rest is on e = let same = views_from None tokens k one is in
    subst (λ b. Expects (cond b (the Expr ∷ []) [] ++ rest) (left tokens (suc k))) on
    (subst (Expects (cond (goes_on (Some one) (head_of (drop (suc k) tokens))) (the Expr ∷ []) [] ++ rest)) (sym same)
    (expected one (drop (suc k) tokens) rest (subst (Expects (the AfterReturn ∷ rest)) same e)))

next_is : {k to : ℕ} → to ≡ k + 1 → suc k ≡ to
next_is next = omega (arith, next)

-- what is expected behind a `return` at a position
decided : (tokens : List Token) (k : ℕ) (one : Token) {to : ℕ} (b : Bool) → slice_get tokens k ≡ Some one →
    takes_value tokens k ≡ b → to ≡ k + 1
    → (rest : List Piece) → Expects (the AfterReturn ∷ rest) (left tokens to) → Expects (cond b (the Expr ∷ []) [] ++ rest) (left tokens to)
decided tokens k one {to} b is takes next rest e = subst (λ n. Expects (cond b (the Expr ∷ []) [] ++ rest) (left tokens n)) (next_is next)
    (turns_by tokens k b one rest is (stands_by tokens k b (slice_get tokens k) refl takes _
    (λ other at on. subst (λ t. goes_on (Some t) (head_of (drop (suc k) tokens)) ≡ b) (same other at) on) (λ none. absurd (no_some (sym none ∙ is))))
    (subst (λ n. Expects (the AfterReturn ∷ rest) (left tokens n)) (sym (next_is next)) e))
  where
    same : (other : Token) → slice_get tokens k ≡ Some other → other ≡ one
    same other at = cc

    no_some : None ≡ Some one → ⊥
    no_some e = cc

-- a token of a kind is a token
pub token_at : (tokens : List Token) (k : ℕ) {kind : TokenKind} → kind_at tokens k ≡ Some kind → (one : Token) × (slice_get tokens k ≡ Some one)
token_at tokens k {kind} is = by_token (slice_get tokens k) refl is
  where
    by_token : (o : Option Token) → slice_get tokens k ≡ o → option_map (λ token. token.kind) o ≡ Some kind →
        (one : Token) × (slice_get tokens k ≡ Some one)
    by_token None at e = absurd (no_some e)
      where
        no_some : None ≡ Some kind → ⊥
        no_some e = cc
    by_token (Some one) at e = (one, at)

pub returned : (tokens : List Token) (k : ℕ) {to : ℕ} {b : List Piece} (kind : TokenKind) → kind_at tokens k ≡ Some kind →
    takes_value tokens k ≡ true → to ≡ k + 1 → Turns (the AfterReturn ∷ b) tokens to (the Expr ∷ b) to
returned tokens k {to} {b} kind is takes next = let t = token_at tokens k is in
    record { goes = λ rest e. record { within = e.within; expects = decided tokens k t.0 true t.1 takes next (b ++ rest) e.expects } }

pub bare : (tokens : List Token) (k : ℕ) {to : ℕ} {b : List Piece} (kind : TokenKind) → kind_at tokens k ≡ Some kind →
    takes_value tokens k ≡ false → to ≡ k + 1 → Turns (the AfterReturn ∷ b) tokens to b to
bare tokens k {to} {b} kind is takes next = let t = token_at tokens k is in
    record { goes = λ rest e. record { within = e.within; expects = decided tokens k t.0 false t.1 takes next (b ++ rest) e.expects } }

or_end : (b : Bool) → b || false ≡ b
or_end true = refl
or_end false = refl

-- the tokens that a statement may begin with, as the grammar sees them
pub stmt_starts : (o : Option TokenKind) → begins_stmt o ≡ next_among statement_starts o
stmt_starts None = refl
stmt_starts (Some Name) = refl
stmt_starts (Some (Number n)) = refl
stmt_starts (Some (Sign s)) = refl
stmt_starts (Some (Word k)) = rw (
  same_word_swap k keyword.Var,
  same_word_swap k keyword.Let,
  same_word_swap k keyword.Const,
  same_word_swap k keyword.Await,
  same_word_swap k keyword.Run,
  same_word_swap k keyword.Cobegin,
  same_word_swap k keyword.When,
  same_word_swap k keyword.Repeat,
  same_word_swap k keyword.While,
  same_word_swap k keyword.If,
  same_word_swap k keyword.Return,
  or_end (same_word keyword.Return k),
) refl
