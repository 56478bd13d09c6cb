use Rattle.std.proofs.Common.{rules}
use Rattle.bl_cparse.proofs.ItemOpening.{struct_opens}
use Rattle.bl_cparse.proofs.parser.item.structure.Goals as goal

pub returns-in_err-take-clause-follows : goal.returns-in_err-take-clause-follows
returns-in_err-take-clause-follows c = λ room rest e. let o = struct_opens e in search rules

pub returns-in_err-name-clause-follows : goal.returns-in_err-name-clause-follows
returns-in_err-name-clause-follows c = λ room rest e. let o = struct_opens e in search rules

pub returns-in_err-take-2-clause-follows : goal.returns-in_err-take-2-clause-follows
returns-in_err-take-2-clause-follows c = λ room rest e. let o = struct_opens e in search rules

pub returns-in_err-members-clause-follows : goal.returns-in_err-members-clause-follows
returns-in_err-members-clause-follows c = λ room rest e. let o = struct_opens e in search rules

pub returns-in_err-take-3-clause-follows : goal.returns-in_err-take-3-clause-follows
returns-in_err-take-3-clause-follows c = λ room rest e. let o = struct_opens e in search rules

pub returns-in_err-take-4-clause-follows : goal.returns-in_err-take-4-clause-follows
returns-in_err-take-4-clause-follows c = λ room rest e. let o = struct_opens e in search rules

pub returns-clause-follows : goal.returns-clause-follows
returns-clause-follows c = λ room rest e. let o = struct_opens e in search rules
