use Rattle.bl_cparse.proofs.ItemOpening.{param_opens}
use Rattle.std.proofs.Common.{rules}
use Rattle.bl_cparse.proofs.parser.item.param.Goals as goal

pub returns-in_err-ty-clause-follows : goal.returns-in_err-ty-clause-follows
returns-in_err-ty-clause-follows c = λ room rest e. let o = param_opens e in search rules

pub returns-in_err-name-clause-follows : goal.returns-in_err-name-clause-follows
returns-in_err-name-clause-follows c = λ room rest e. let o = param_opens e in search rules

pub returns-clause-follows : goal.returns-clause-follows
returns-clause-follows c = λ room rest e. let o = param_opens e in search rules
