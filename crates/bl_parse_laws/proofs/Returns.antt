-- What a `return` has after it.
use Rattle.std.proofs.Common.{◌≡◌, ℕ, zero, suc, ◌+◌, Bool, true, false, not, ◌&&◌, ◌||◌, List, [], ◌∷◌, drop, refl, ap, sym, ◌∙◌}
use Rattle.std.specs.Prelude.{Some, None, slice_get, nat_eq}
use Rattle.bl_tree.proofs.Basics.{number_test_swap}
use Rattle.bl_tree.proofs.KeywordLemmas.{same_word_swap}
use Rattle.bl_tree.specs.declared.token.Token.{Token}
use Rattle.bl_tree.specs.declared.token.TokenKind.{TokenKind}
use Rattle.bl_tree.specs.declared.token.TokenKind.TheVariants.{Name, Number, Word, Sign}
use Rattle.bl_tree.specs.declared.token.Keyword.TheVariants as keyword
use Rattle.bl_tree.specs.Keywords.{same_word}
use Rattle.bl_lex.specs.declared.sign.TheConstants.{OPEN_PAREN, MINUS, TILDE}
use Rattle.bl_grammar.specs.Derivations.{next_of}
use Rattle.bl_grammar.specs.Derivations.Derives.{done, part}
use Rattle.bl_parse_syntax.specs.declared.grammar.Part.TheVariants.{AfterReturn, Expr}
use Rattle.bl_parse_syntax.specs.Grammar.{the, class_of, views_after, begins_expression, continues}
use Rattle.bl_parse_syntax.specs.Grammar.IsAmong.{here, later}
use Rattle.bl_parse.specs.At.{kind_at, Takes}
use Rattle.bl_parse.specs.Operators.{begins_expr}
use Rattle.bl_parse.specs.inner.Reading.{left}
use Rattle.bl_parse.specs.Statements.{goes_on, takes_value}
use Rattle.bl_parse.proofs.ReturnLemmas.{token_at}
use Rattle.bl_parse_laws.proofs.Spans.{Spans, position}
use Rattle.bl_parse.proofs.ReturnLemmas.{four, three, views_from}

begins_is : (kind : TokenKind) → begins_expr kind ≡ begins_expression (class_of kind)
begins_is Name = refl
begins_is (Number n) = refl
begins_is (Word k) = rw (same_word_swap k keyword.Not, same_word_swap k keyword.True, same_word_swap k keyword.False, same_word_swap k keyword.Prev)
    (four (same_word keyword.Not k) (same_word keyword.True k) (same_word keyword.False k) (same_word keyword.Prev k))
begins_is (Sign k) = rw (number_test_swap k OPEN_PAREN, number_test_swap k MINUS, number_test_swap k TILDE) (three (nat_eq OPEN_PAREN k) (nat_eq MINUS k) (nat_eq TILDE k))

get_head : (k : ℕ) (tokens : List Token) → slice_get tokens k ≡ slice_get (drop k tokens) 0
get_head zero [] = refl
get_head zero (x ∷ xs) = refl
get_head (suc k) [] = refl
get_head (suc k) (x ∷ xs) = get_head k xs

same_line : (a : Bool) {b c : Bool} → b ≡ c → not (not a) && c ≡ a && b
same_line true e = sym e
same_line false e = refl

goes_alike : (one : Token) (ds : List Token) → continues (next_of (views_after (Some one.line) ds)) ≡ goes_on (Some one) (slice_get ds 0)
goes_alike one [] = refl
goes_alike one (x ∷ xs) = same_line (nat_eq one.line x.line) (begins_is x.kind)

-- an expression continues a `return` exactly where the tree has one
continues_is : (tokens : List Token) (k : ℕ) (kind : TokenKind) {to : ℕ} → kind_at tokens k ≡ Some kind → to ≡ k + 1 →
    continues (next_of (left tokens to)) ≡ takes_value tokens k
continues_is tokens k kind {to} is next = let t = token_at tokens k is in by_token t.0 t.1
  where
    by_token : (one : Token) → slice_get tokens k ≡ Some one → continues (next_of (left tokens to)) ≡ takes_value tokens k
    by_token one at =
        ap (λ n. continues (next_of (left tokens n))) (position next) ∙ (ap (λ vs. continues (next_of vs)) (views_from None tokens k one at)
        ∙ (goes_alike one (drop (suc k) tokens) ∙ (ap (goes_on (Some one)) (sym (get_head (suc k) tokens))
        ∙ (ap (λ o. goes_on o (slice_get tokens (suc k))) (sym at) ∙ ap (λ n. goes_on (slice_get tokens k) (slice_get tokens n)) (sym (position refl))))))

pub bare : {tokens : List Token} {from to : ℕ} → Takes tokens (Word keyword.Return) from to → takes_value tokens from ≡ false →
    Spans (the AfterReturn ∷ []) tokens to to
bare {tokens} {from} t none = record { goes = part (later here, ap not (continues_is tokens from (Word keyword.Return) t.stands t.next ∙ none)) done done }

pub valued : {tokens : List Token} {from m to : ℕ} → Takes tokens (Word keyword.Return) from m → takes_value tokens from ≡ true →
    Spans (the Expr ∷ []) tokens m to → Spans (the AfterReturn ∷ []) tokens m to
valued {tokens} {from} t on s = record { goes = part (here, continues_is tokens from (Word keyword.Return) t.stands t.next ∙ on) s.goes done }
