use Rattle.bl_cparse.proofs.LoopLemmas.{counted_walk}
use Rattle.bl_cparse.proofs.placing.stmt.counted.Goals as goal

pub returns-clause-places : goal.returns-clause-places
returns-clause-places c = λ turn. counted_walk turn c.expr.new.e c.args.spot.now _ _ _
    (c.turn_front.ensures turn) c.expr.ensures.places (c.turn_rest.ensures turn)
