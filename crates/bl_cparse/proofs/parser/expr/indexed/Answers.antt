use Rattle.std.proofs.Common.{arith, rules}
use Rattle.bl_cparse.proofs.ExprOpening.{index_stands}
use Rattle.bl_cparse.proofs.parser.expr.indexed.Goals as goal

pub returns-then-place-lt2-clause-follows : goal.returns-then-place-lt2-clause-follows
returns-then-place-lt2-clause-follows c = λ stands rest e. let o = index_stands stands e in absurd (omega (arith, o.0))

pub returns-in_err-signed-clause-follows : goal.returns-in_err-signed-clause-follows
returns-in_err-signed-clause-follows c = λ stands rest e. let o = index_stands stands e in let q = o.1 in search rules

pub returns-in_err-p-clause-follows : goal.returns-in_err-p-clause-follows
returns-in_err-p-clause-follows c = λ stands rest e. let o = index_stands stands e in let q = o.1 in search rules

pub returns-clause-follows : goal.returns-clause-follows
returns-clause-follows c = λ stands rest e. c.in_ok-p.ensures.awaits rest _ (c.in_ok-signed.ensures.follows _ (index_stands stands e).1)
