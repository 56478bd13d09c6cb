use Rattle.bl_cparse.proofs.ReadLemmas.{wanting}
use Rattle.bl_cparse.proofs.parser.stmt.declared_turn.Goals as goal

pub returns-in_err-take-2-clause-follows : goal.returns-in_err-take-2-clause-follows
returns-in_err-take-2-clause-follows c = λ room rest e. wanting _ _ _ c.from_residual-in_err-take-2.ensures.1
    (c.in_err-take-2.ensures.follows _ (c.in_ok-take.ensures.follows _ e))

pub returns-in_err-begun_turns-clause-follows : goal.returns-in_err-begun_turns-clause-follows
returns-in_err-begun_turns-clause-follows c = λ room rest e. wanting _ _ _ c.from_residual-in_err-begun_turns.ensures.1
    (c.in_err-begun_turns.ensures.follows _ (c.in_ok-turn.ensures.follows room rest (c.in_ok-take-2.ensures.follows _ (c.in_ok-take.ensures.follows _ e))))

pub returns-clause-follows : goal.returns-clause-follows
returns-clause-follows c = λ room rest e. c.in_ok-begun_turns.ensures.follows _
    (c.in_ok-turn.ensures.follows room rest (c.in_ok-take-2.ensures.follows _ (c.in_ok-take.ensures.follows _ e)))
