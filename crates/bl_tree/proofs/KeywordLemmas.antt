-- A keyword is known by its position.
use Rattle.std.proofs.Common.{◌≡◌, ℕ, true, refl, ap, sym, ◌∙◌}
use Rattle.std.proofs.lemmas.Bool.{eq-eqb, eqb-true}
use Rattle.std.specs.Prelude.{cond, nat_eq}
use Rattle.bl_tree.proofs.Basics.{number_test_swap}
use Rattle.bl_tree.specs.declared.token.Keyword.{Keyword}
use Rattle.bl_tree.specs.declared.token.Keyword.TheVariants as keyword
use Rattle.bl_tree.specs.Keywords.{position, same_word}

-- the keyword at the position, and the last one beyond them
abbrev pub keyword_at : ℕ → Keyword
keyword_at n =
    cond (nat_eq n 0) keyword.Function (cond (nat_eq n 1) keyword.Activity (cond (nat_eq n 2) keyword.Returns (
    cond (nat_eq n 3) keyword.Return (cond (nat_eq n 4) keyword.Struct (cond (nat_eq n 5) keyword.Var (
    cond (nat_eq n 6) keyword.Let (cond (nat_eq n 7) keyword.Const (cond (nat_eq n 8) keyword.If (
    cond (nat_eq n 9) keyword.Then (cond (nat_eq n 10) keyword.Elseif (cond (nat_eq n 11) keyword.Else (
    cond (nat_eq n 12) keyword.End (cond (nat_eq n 13) keyword.Await (cond (nat_eq n 14) keyword.Run (
    cond (nat_eq n 15) keyword.Cobegin (cond (nat_eq n 16) keyword.Weak (cond (nat_eq n 17) keyword.With (
    cond (nat_eq n 18) keyword.When (cond (nat_eq n 19) keyword.Abort (cond (nat_eq n 20) keyword.Reset (
    cond (nat_eq n 21) keyword.Repeat (cond (nat_eq n 22) keyword.Until (cond (nat_eq n 23) keyword.While (
    cond (nat_eq n 24) keyword.Prev (cond (nat_eq n 25) keyword.As (cond (nat_eq n 26) keyword.Not (
    cond (nat_eq n 27) keyword.And (cond (nat_eq n 28) keyword.Or (cond (nat_eq n 29) keyword.True (
    cond (nat_eq n 30) keyword.False (cond (nat_eq n 31) keyword.Bool (cond (nat_eq n 32) keyword.Int8 (
    cond (nat_eq n 33) keyword.Int16 (cond (nat_eq n 34) keyword.Int32 (cond (nat_eq n 35) keyword.Int64 (
    cond (nat_eq n 36) keyword.Nat8 (cond (nat_eq n 37) keyword.Nat16 (cond (nat_eq n 38) keyword.Nat32 (
    cond (nat_eq n 39) keyword.Nat64 (cond (nat_eq n 40) keyword.Bits8 (cond (nat_eq n 41) keyword.Bits16 (
    cond (nat_eq n 42) keyword.Bits32 keyword.Bits64))))))))))))))))))))))))))))))))))))))))))

pub at_position : (k : Keyword) → keyword_at (position k) ≡ k
at_position keyword.Function = refl
at_position keyword.Activity = refl
at_position keyword.Returns = refl
at_position keyword.Return = refl
at_position keyword.Struct = refl
at_position keyword.Var = refl
at_position keyword.Let = refl
at_position keyword.Const = refl
at_position keyword.If = refl
at_position keyword.Then = refl
at_position keyword.Elseif = refl
at_position keyword.Else = refl
at_position keyword.End = refl
at_position keyword.Await = refl
at_position keyword.Run = refl
at_position keyword.Cobegin = refl
at_position keyword.Weak = refl
at_position keyword.With = refl
at_position keyword.When = refl
at_position keyword.Abort = refl
at_position keyword.Reset = refl
at_position keyword.Repeat = refl
at_position keyword.Until = refl
at_position keyword.While = refl
at_position keyword.Prev = refl
at_position keyword.As = refl
at_position keyword.Not = refl
at_position keyword.And = refl
at_position keyword.Or = refl
at_position keyword.True = refl
at_position keyword.False = refl
at_position keyword.Bool = refl
at_position keyword.Int8 = refl
at_position keyword.Int16 = refl
at_position keyword.Int32 = refl
at_position keyword.Int64 = refl
at_position keyword.Nat8 = refl
at_position keyword.Nat16 = refl
at_position keyword.Nat32 = refl
at_position keyword.Nat64 = refl
at_position keyword.Bits8 = refl
at_position keyword.Bits16 = refl
at_position keyword.Bits32 = refl
at_position keyword.Bits64 = refl

-- keywords of one position are one
pub position_is : (one other : Keyword) → position one ≡ position other → one ≡ other
position_is one other e = sym (at_position one) ∙ ap keyword_at e ∙ at_position other

-- keywords that test as one are one
pub same_word_is : (one other : Keyword) → same_word one other ≡ true → one ≡ other
same_word_is one other e = position_is one other (eqb-true (position one) (position other) e)

pub same_word_self : (k : Keyword) → same_word k k ≡ true
same_word_self k = eq-eqb (position k) (position k) refl

pub same_word_swap : (one other : Keyword) → same_word one other ≡ same_word other one
same_word_swap one other = number_test_swap (position one) (position other)
