use Rattle.bl_effects_laws_places.proofs.Failing.{failures_move, passing_stays}
use Rattle.bl_effects_laws_places.proofs.rules.failures_move.Goals as goal

pub returns-clause-failures : goal.returns-clause-failures
returns-clause-failures c = failures_move

pub returns-clause-passing : goal.returns-clause-passing
returns-clause-passing c = passing_stays
