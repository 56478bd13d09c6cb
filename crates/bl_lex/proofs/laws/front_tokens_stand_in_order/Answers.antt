use Rattle.std.proofs.Common.{arith}
use Rattle.bl_lex.proofs.RuleLaws.{placed_inside, placed_one_by_one}
use Rattle.bl_lex.proofs.laws.front_tokens_stand_in_order.Goals as goal

pub returns-clause-inside : goal.returns-clause-inside
returns-clause-inside c = λ text tokens stop is. placed_inside text is.parts stop is.covers tokens is.are_tokens

pub returns-clause-in_order : goal.returns-clause-in_order
returns-clause-in_order c = λ text tokens stop is k d inside. placed_one_by_one text is.parts stop is.covers tokens is.are_tokens k d (omega arith)
