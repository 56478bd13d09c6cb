use Rattle.bl_cparse.proofs.ItemOpening.{member_opens}
use Rattle.std.proofs.Common.{rules}
use Rattle.bl_cparse.proofs.parser.item.member.Goals as goal

pub returns-in_err-ty-clause-follows : goal.returns-in_err-ty-clause-follows
returns-in_err-ty-clause-follows c = λ room rest e. let o = member_opens e in search rules

pub returns-in_err-name-clause-follows : goal.returns-in_err-name-clause-follows
returns-in_err-name-clause-follows c = λ room rest e. let o = member_opens e in search rules

pub returns-in_err-length-clause-follows : goal.returns-in_err-length-clause-follows
returns-in_err-length-clause-follows c = λ room rest e. let o = member_opens e in search rules

pub returns-in_err-take-clause-follows : goal.returns-in_err-take-clause-follows
returns-in_err-take-clause-follows c = λ room rest e. let o = member_opens e in search rules

pub returns-clause-follows : goal.returns-clause-follows
returns-clause-follows c = λ room rest e. let o = member_opens e in search rules
