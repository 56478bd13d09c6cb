use Rattle.std.proofs.Common.{sym, subst}
use Rattle.bl_tree.specs.declared.scalar.Op.{Op}
use Rattle.bl_tree.specs.declared.token.TokenKind.TheVariants.{Word}
use Rattle.bl_parse.specs.Operators.{IsOperator}
use Rattle.bl_parse.proofs.operator.infix_of_word.Goals as goal

pub returns-in-Or-clause-is : goal.returns-in-Or-clause-is
returns-in-Or-clause-is c = subst (λ k. IsOperator (Word k) 0 Op.Or) (sym c.in-Or.is) IsOperator.either

pub returns-in-And-clause-is : goal.returns-in-And-clause-is
returns-in-And-clause-is c = subst (λ k. IsOperator (Word k) 1 Op.And) (sym c.in-And.is) IsOperator.both
