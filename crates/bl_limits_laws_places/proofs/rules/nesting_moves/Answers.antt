use Rattle.bl_limits_laws_places.proofs.Failing.{nesting_moves, nesting_stays}
use Rattle.bl_limits_laws_places.proofs.rules.nesting_moves.Goals as goal

pub returns-clause-failures : goal.returns-clause-failures
returns-clause-failures c = nesting_moves

pub returns-clause-passing : goal.returns-clause-passing
returns-clause-passing c = nesting_stays
