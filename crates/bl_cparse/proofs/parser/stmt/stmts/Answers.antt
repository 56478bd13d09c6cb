use Rattle.std.proofs.Common.{rules, List, ◌∷◌, ◌++◌, codes, subst}
use Rattle.bl_cparse_syntax.specs.declared.grammar.Part.TheVariants.{Stmts}
use Rattle.bl_cparse_syntax.specs.Expects.{Expects}
use Rattle.bl_cparse.specs.declared.parser.stmt.Frame.{Frame}
use Rattle.bl_cparse.specs.inner.Reading.{sign, part}
use Rattle.bl_cparse.specs.inner.Awaiting.{outside}
use Rattle.bl_cparse.proofs.StmtOpening.{stmts_end}
use Rattle.bl_cparse.proofs.parser.stmt.stmts.Goals as goal

pub further-requires-clause-open : goal.further-requires-clause-open
further-requires-clause-open c = c.is_closed.ensures.open c.loop-r-test.true

pub loop-r-preserved : goal.loop-r-preserved
loop-r-preserved c = record { read = search rules; follows = λ rest e. let o = c.loop-r.invariant.follows rest e in search rules }

pub returns-in_err-nest-clause-follows : goal.returns-in_err-nest-clause-follows
returns-in_err-nest-clause-follows c = λ rest e. let o = c.loop-r.invariant.follows rest e in search rules

pub returns-clause-follows : goal.returns-clause-follows
returns-clause-follows c = λ rest e. stmts_end (c.is_closed.ensures.closed c.loop-r-test.false)
    (subst (λ (fs : List Frame). Expects (part Stmts c.loop-r.nest.room ∷ sign (codes "}") ∷ (outside fs ++ rest)) c.loop-r.r)
    (c.is_closed.ensures.outer c.loop-r-test.false) (c.loop-r.invariant.follows rest e))
