use Rattle.std.proofs.Common.{sym, subst}
use Rattle.bl_tree.specs.declared.scalar.Op.{Op}
use Rattle.bl_parse.specs.Operators.{IsOperator}
use Rattle.bl_parse.proofs.TokenLemmas.{sign_is}
use Rattle.bl_parse.proofs.operator.infix_of.Goals as goal

pub returns-in-Sign-eq8-clause-is : goal.returns-in-Sign-eq8-clause-is
returns-in-Sign-eq8-clause-is c = subst (λ k. IsOperator k 2 Op.Eq)
    (sym (sign_is c.in-Sign-eq8.is c.in-Sign-eq8.field-0-is c.in-Sign-eq8.field-0-test)) IsOperator.equal

pub returns-in-Sign-eq9-clause-is : goal.returns-in-Sign-eq9-clause-is
returns-in-Sign-eq9-clause-is c = subst (λ k. IsOperator k 2 Op.Ne)
    (sym (sign_is c.in-Sign-eq9.is c.in-Sign-eq9.field-0-is c.in-Sign-eq9.field-0-test)) IsOperator.differs

pub returns-in-Sign-eq10-clause-is : goal.returns-in-Sign-eq10-clause-is
returns-in-Sign-eq10-clause-is c = subst (λ k. IsOperator k 2 Op.Lt)
    (sym (sign_is c.in-Sign-eq10.is c.in-Sign-eq10.field-0-is c.in-Sign-eq10.field-0-test)) IsOperator.less

pub returns-in-Sign-eq11-clause-is : goal.returns-in-Sign-eq11-clause-is
returns-in-Sign-eq11-clause-is c = subst (λ k. IsOperator k 2 Op.Le)
    (sym (sign_is c.in-Sign-eq11.is c.in-Sign-eq11.field-0-is c.in-Sign-eq11.field-0-test)) IsOperator.at_most

pub returns-in-Sign-eq12-clause-is : goal.returns-in-Sign-eq12-clause-is
returns-in-Sign-eq12-clause-is c = subst (λ k. IsOperator k 2 Op.Gt)
    (sym (sign_is c.in-Sign-eq12.is c.in-Sign-eq12.field-0-is c.in-Sign-eq12.field-0-test)) IsOperator.greater

pub returns-in-Sign-eq13-clause-is : goal.returns-in-Sign-eq13-clause-is
returns-in-Sign-eq13-clause-is c = subst (λ k. IsOperator k 2 Op.Ge)
    (sym (sign_is c.in-Sign-eq13.is c.in-Sign-eq13.field-0-is c.in-Sign-eq13.field-0-test)) IsOperator.at_least

pub returns-in-Sign-eq20-clause-is : goal.returns-in-Sign-eq20-clause-is
returns-in-Sign-eq20-clause-is c = subst (λ k. IsOperator k 3 Op.BitOr)
    (sym (sign_is c.in-Sign-eq20.is c.in-Sign-eq20.field-0-is c.in-Sign-eq20.field-0-test)) IsOperator.bits_or

pub returns-in-Sign-eq21-clause-is : goal.returns-in-Sign-eq21-clause-is
returns-in-Sign-eq21-clause-is c = subst (λ k. IsOperator k 4 Op.BitXor)
    (sym (sign_is c.in-Sign-eq21.is c.in-Sign-eq21.field-0-is c.in-Sign-eq21.field-0-test)) IsOperator.bits_xor

pub returns-in-Sign-eq19-clause-is : goal.returns-in-Sign-eq19-clause-is
returns-in-Sign-eq19-clause-is c = subst (λ k. IsOperator k 5 Op.BitAnd)
    (sym (sign_is c.in-Sign-eq19.is c.in-Sign-eq19.field-0-is c.in-Sign-eq19.field-0-test)) IsOperator.bits_and

pub returns-in-Sign-eq23-clause-is : goal.returns-in-Sign-eq23-clause-is
returns-in-Sign-eq23-clause-is c = subst (λ k. IsOperator k 6 Op.Shl)
    (sym (sign_is c.in-Sign-eq23.is c.in-Sign-eq23.field-0-is c.in-Sign-eq23.field-0-test)) IsOperator.shift_left

pub returns-in-Sign-eq24-clause-is : goal.returns-in-Sign-eq24-clause-is
returns-in-Sign-eq24-clause-is c = subst (λ k. IsOperator k 6 Op.Shr)
    (sym (sign_is c.in-Sign-eq24.is c.in-Sign-eq24.field-0-is c.in-Sign-eq24.field-0-test)) IsOperator.shift_right

pub returns-in-Sign-eq14-clause-is : goal.returns-in-Sign-eq14-clause-is
returns-in-Sign-eq14-clause-is c = subst (λ k. IsOperator k 7 Op.Add)
    (sym (sign_is c.in-Sign-eq14.is c.in-Sign-eq14.field-0-is c.in-Sign-eq14.field-0-test)) IsOperator.plus

pub returns-in-Sign-eq15-clause-is : goal.returns-in-Sign-eq15-clause-is
returns-in-Sign-eq15-clause-is c = subst (λ k. IsOperator k 7 Op.Sub)
    (sym (sign_is c.in-Sign-eq15.is c.in-Sign-eq15.field-0-is c.in-Sign-eq15.field-0-test)) IsOperator.minus

pub returns-in-Sign-eq16-clause-is : goal.returns-in-Sign-eq16-clause-is
returns-in-Sign-eq16-clause-is c = subst (λ k. IsOperator k 8 Op.Mul)
    (sym (sign_is c.in-Sign-eq16.is c.in-Sign-eq16.field-0-is c.in-Sign-eq16.field-0-test)) IsOperator.times

pub returns-in-Sign-eq17-clause-is : goal.returns-in-Sign-eq17-clause-is
returns-in-Sign-eq17-clause-is c = subst (λ k. IsOperator k 8 Op.Div)
    (sym (sign_is c.in-Sign-eq17.is c.in-Sign-eq17.field-0-is c.in-Sign-eq17.field-0-test)) IsOperator.divided

pub returns-in-Sign-eq18-clause-is : goal.returns-in-Sign-eq18-clause-is
returns-in-Sign-eq18-clause-is c = subst (λ k. IsOperator k 8 Op.Rem)
    (sym (sign_is c.in-Sign-eq18.is c.in-Sign-eq18.field-0-is c.in-Sign-eq18.field-0-test)) IsOperator.remainder
