use Rattle.bl_cparse.proofs.parser.stmt.counted_turn.Goals as goal

pub returns-clause-follows : goal.returns-clause-follows
returns-clause-follows c = λ rest e. c.next_turn.ensures.follows _
    (c.in_ok-take-3.ensures.follows _ (c.in_ok-take-2.ensures.follows _ (c.in_ok-take.ensures.follows _ e)))
