use Rattle.bl_lex.proofs.RuleLaws.{one_list}
use Rattle.bl_lex.proofs.laws.tokens_are_one.Goals as goal

pub returns : goal.returns
returns c = one_list
