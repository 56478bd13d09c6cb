use Rattle.std.proofs.Common.{arith, rules}
use Rattle.bl_cparse.proofs.ExprOpening.{index_stands}
use Rattle.bl_cparse.proofs.parser.place.index.Goals as goal

pub returns-then-room-lt2-clause-follows : goal.returns-then-room-lt2-clause-follows
returns-then-room-lt2-clause-follows c = λ rest e. let o = index_stands c.requires e in absurd (omega (arith, o.0))

pub returns-in_err-signed-clause-follows : goal.returns-in_err-signed-clause-follows
returns-in_err-signed-clause-follows c = λ rest e. let o = index_stands c.requires e in let q = o.1 in search rules

pub returns-in_err-at-clause-follows : goal.returns-in_err-at-clause-follows
returns-in_err-at-clause-follows c = λ rest e. let o = index_stands c.requires e in let q = o.1 in search rules

pub returns-in_err-length-clause-follows : goal.returns-in_err-length-clause-follows
returns-in_err-length-clause-follows c = λ rest e. let o = index_stands c.requires e in let q = o.1 in search rules

pub returns-clause-follows : goal.returns-clause-follows
returns-clause-follows c = λ rest e. let o = index_stands c.requires e in let q = o.1 in search rules
