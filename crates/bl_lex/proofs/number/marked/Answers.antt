use Rattle.std.proofs.Common.{refl, arith}
use Rattle.bl_lex.specs.Spelling.IsNumber.{hexadecimal, binary}
use Rattle.bl_lex.proofs.Numbers.{IsNoNumeral-marked}
use Rattle.bl_lex.proofs.number.marked.Goals as goal

pub returns-in_err-value_of-in-120 : goal.returns-in_err-value_of-in-120
returns-in_err-value_of-in-120 c = rw c.from_residual.ensures
    (IsNoNumeral-marked _ _ c.requires.not_decimal (λ e. c.in_err-value_of-in-120.ensures) (λ e. absurd (omega arith)) (λ e. absurd (omega arith)))

pub returns-in_err-value_of-in-98 : goal.returns-in_err-value_of-in-98
returns-in_err-value_of-in-98 c = rw c.from_residual-in_err-value_of-in-98.ensures
    (IsNoNumeral-marked _ _ c.requires.not_decimal (λ e. absurd (omega arith)) (λ e. c.in_err-value_of-in-98.ensures) (λ e. absurd (omega arith)))

pub returns-in_err-value_of-in-111 : goal.returns-in_err-value_of-in-111
returns-in_err-value_of-in-111 c = rw c.from_residual-in_err-value_of-in-111.ensures
    (IsNoNumeral-marked _ _ c.requires.not_decimal (λ e. absurd (omega arith)) (λ e. absurd (omega arith)) (λ e. c.in_err-value_of-in-111.ensures))

pub returns-in_ok-value_of-in-120 : goal.returns-in_ok-value_of-in-120
returns-in_ok-value_of-in-120 c = let h = c.in_ok-value_of-in-120.ensures in (c.requires.not_decimal, (_, rw c.in-120.is (hexadecimal h.0), h.1))

pub returns-in_ok-value_of-in-98 : goal.returns-in_ok-value_of-in-98
returns-in_ok-value_of-in-98 c = let h = c.in_ok-value_of-in-98.ensures in (c.requires.not_decimal, (_, rw c.in-98.is (binary h.0), h.1))

pub returns-in_ok-value_of-in-111 : goal.returns-in_ok-value_of-in-111
returns-in_ok-value_of-in-111 c = (_, rw c.in-111.is refl, c.in_ok-value_of-in-111.ensures.0)

pub returns-in_default : goal.returns-in_default
returns-in_default c = IsNoNumeral-marked _ _ c.requires.not_decimal (λ e. absurd (omega arith)) (λ e. absurd (omega arith)) (λ e. absurd (omega arith))
