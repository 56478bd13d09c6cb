use Rattle.std.proofs.Common.{rules, List, ◌++◌, subst}
use Rattle.bl_cparse_syntax.specs.Grammar.{Wanted}
use Rattle.bl_cparse_syntax.specs.Expects.{Expects}
use Rattle.bl_cparse.proofs.parser.expr.whole.Goals as goal

pub loop-r-init : goal.loop-r-init
loop-r-init c = record { read = search rules; follows = λ rest e. e }

pub further-requires-clause-open : goal.further-requires-clause-open
further-requires-clause-open c = c.is_whole.ensures.open c.loop-r-test.true

pub loop-r-preserved : goal.loop-r-preserved
loop-r-preserved c = record { read = search rules; follows = λ rest e. let o = c.loop-r.invariant.follows rest e in search rules }

pub returns-in_err-partial-clause-follows : goal.returns-in_err-partial-clause-follows
returns-in_err-partial-clause-follows c = λ rest e. let o = c.loop-r.invariant.follows rest e in search rules

pub returns-clause-follows : goal.returns-clause-follows
returns-clause-follows c = λ rest e. subst (λ (w : List Wanted). Expects (w ++ rest) c.loop-r.r) c.last.ensures.nothing (c.loop-r.invariant.follows rest e)
