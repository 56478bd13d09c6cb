use Rattle.bl_cparse_syntax.specs.declared.grammar.Part.TheVariants.{AssignTail}
use Rattle.bl_cparse.specs.inner.Reading.{GoesOnAPlace}
use Rattle.bl_cparse.proofs.ReadLemmas.{wanting}
use Rattle.bl_cparse.proofs.parser.stmt.set.Goals as goal

pub returns-in_err-at-clause-follows : goal.returns-in_err-at-clause-follows
returns-in_err-at-clause-follows c = λ rest e. wanting _ _ _ c.from_residual.ensures.1 (c.in_err-at.ensures.follows AssignTail GoesOnAPlace.assigned rest e)

pub returns-clause-follows : goal.returns-clause-follows
returns-clause-follows c = λ rest e. c.assigned.ensures.follows c.in_ok-at.ensures.ends rest
    (c.in_ok-at.ensures.follows AssignTail GoesOnAPlace.assigned rest e)
