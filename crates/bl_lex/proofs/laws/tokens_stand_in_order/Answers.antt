use Rattle.std.proofs.Common.{arith}
use Rattle.bl_lex.proofs.RuleLaws.{tokens_inside, tokens_in_order}
use Rattle.bl_lex.proofs.laws.tokens_stand_in_order.Goals as goal

pub returns-clause-inside : goal.returns-clause-inside
returns-clause-inside c = tokens_inside

pub returns-clause-in_order : goal.returns-clause-in_order
returns-clause-in_order c = λ text tokens is k d inside. tokens_in_order text tokens is k d (omega arith)
