-- Rule Depth: how deep a text's tokens nest, over tokens alone.
use Rattle.std.specs.Prelude.{ℕ, ◌+◌, ◌-◌, ◌<◌, Bool, true, false, cond, not, ◌||◌, nat_eq, List, [], ◌∷◌, ◌⊎◌, Option, Some, None}
use Rattle.std.specs.List.{list_any}
use Rattle.bl_tree.specs.declared.token.Token.{Token}
use Rattle.bl_tree.specs.declared.token.TokenKind.{TokenKind}
use Rattle.bl_tree.specs.declared.token.TokenKind.TheVariants.{Name, Number, Word, Sign}
use Rattle.bl_tree.specs.declared.token.Keyword.{Keyword}
use Rattle.bl_tree.specs.declared.token.Keyword.TheVariants as keyword
use Rattle.bl_tree.specs.Keywords.{same_word}
use Rattle.bl_lex.specs.declared.sign.TheConstants.{OPEN_PAREN, CLOSE_PAREN, OPEN_BRACKET, CLOSE_BRACKET, ASSIGN, EQUAL, NOT_EQUAL, LESS, LESS_OR_EQUAL}
use Rattle.bl_lex.specs.declared.sign.TheConstants.{GREATER, GREATER_OR_EQUAL, PLUS, MINUS, STAR, SLASH, PERCENT, AMPERSAND, BAR, CARET, TILDE, SHIFT_LEFT}
use Rattle.bl_lex.specs.declared.sign.TheConstants.{SHIFT_RIGHT, AT}

-- whether the number is in the list
abbrev pub is_one_of : List ℕ → ℕ → Bool
is_one_of numbers k = list_any (λ n. nat_eq n k) numbers

-- whether the keyword is in the list
abbrev pub is_word_of : List Keyword → Keyword → Bool
is_word_of words k = list_any (λ one. same_word one k) words

-- the keywords that open a block
abbrev pub opening_words : List Keyword
opening_words = keyword.Function ∷ keyword.Activity ∷ keyword.Struct ∷ keyword.If ∷ keyword.Cobegin ∷ keyword.When ∷ keyword.Repeat ∷ []

-- the scalar types
abbrev pub scalar_words : List Keyword
scalar_words =
    keyword.Bool ∷ keyword.Int8 ∷ keyword.Int16 ∷ keyword.Int32 ∷ keyword.Int64 ∷ keyword.Nat8 ∷ keyword.Nat16 ∷
    keyword.Nat32 ∷ keyword.Nat64 ∷ keyword.Bits8 ∷ keyword.Bits16 ∷ keyword.Bits32 ∷ keyword.Bits64 ∷ []

-- the operators that are words
abbrev pub counted_words : List Keyword
counted_words = keyword.And ∷ keyword.Or ∷ keyword.Not ∷ keyword.As ∷ []

-- the operators that are signs, and the opening brackets
abbrev pub counted_signs : List ℕ
counted_signs =
    OPEN_PAREN ∷ OPEN_BRACKET ∷ PLUS ∷ MINUS ∷ STAR ∷ SLASH ∷ PERCENT ∷ AMPERSAND ∷ BAR ∷ CARET ∷ TILDE ∷ SHIFT_LEFT ∷ SHIFT_RIGHT ∷
    EQUAL ∷ NOT_EQUAL ∷ LESS ∷ LESS_OR_EQUAL ∷ GREATER ∷ GREATER_OR_EQUAL ∷ []

-- the blocks that are open after a token of this kind; `end` closes one where one is open
abbrev pub blocks_after : ℕ → TokenKind → ℕ
blocks_after blocks Name = blocks
blocks_after blocks (Number value) = blocks
blocks_after blocks (Word k) = cond (is_word_of opening_words k) (blocks + 1) (cond (same_word k keyword.End) (blocks - 1) blocks)
blocks_after blocks (Sign k) = blocks

-- the token is an operator or an opening bracket
abbrev pub is_counted : TokenKind → Bool
is_counted Name = false
is_counted (Number value) = false
is_counted (Word k) = is_word_of counted_words k
is_counted (Sign k) = is_one_of counted_signs k

-- an expression or type can end with the token
abbrev pub is_last : TokenKind → Bool
is_last Name = true
is_last (Number value) = true
is_last (Word k) = same_word k keyword.True || same_word k keyword.False || is_word_of scalar_words k
is_last (Sign k) = nat_eq k CLOSE_PAREN || nat_eq k CLOSE_BRACKET

-- a keyword that can stand in an expression
abbrev pub is_inner_word : Keyword → Bool
is_inner_word k = is_word_of counted_words k || same_word k keyword.True || same_word k keyword.False || same_word k keyword.Prev || is_word_of scalar_words k

-- whether a token begins a run: `=`, `@`, a keyword that no expression has, or a name directly after an expression
abbrev pub begins_run : Option TokenKind → TokenKind → Bool
begins_run None Name = false
begins_run (Some before) Name = is_last before
begins_run before (Number value) = false
begins_run before (Word k) = not (is_inner_word k)
begins_run before (Sign k) = nat_eq k ASSIGN || nat_eq k AT

-- the operators and opening brackets of the run, with this token
abbrev pub run_with : ℕ → Option TokenKind → TokenKind → ℕ
run_with run before kind = cond (begins_run before kind) 0 (cond (is_counted kind) (run + 1) run)

-- the blocks that are open after the tokens, where so many were before
abbrev pub open_after : ℕ → List Token → ℕ
open_after blocks [] = blocks
open_after blocks (token ∷ tokens) = open_after (blocks_after blocks token.kind) tokens

-- the operators and opening brackets of the run that the tokens end with, after a run of so many and a token of this kind
abbrev pub run_after : ℕ → Option TokenKind → List Token → ℕ
run_after run before [] = run
run_after run before (token ∷ tokens) = run_after (run_with run before token.kind) (Some token.kind) tokens

-- the tokens end deeper than is allowed
abbrev pub IsTooDeep : List Token → Type 0
IsTooDeep tokens = (100 < open_after 0 tokens) ⊎ (200 < run_after 0 None tokens)
