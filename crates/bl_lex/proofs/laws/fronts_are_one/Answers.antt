use Rattle.bl_lex.proofs.FrontLaws.{same_stop, same_tokens}
use Rattle.bl_lex.proofs.laws.fronts_are_one.Goals as goal

pub returns-clause-tokens : goal.returns-clause-tokens
returns-clause-tokens c = same_tokens

pub returns-clause-stop : goal.returns-clause-stop
returns-clause-stop c = same_stop
