use Rattle.bl_peel_laws_places.proofs.Counts.{counts_stay}
use Rattle.bl_peel_laws_places.proofs.Peeling.{peeled_moves}
use Rattle.bl_peel_laws_places.proofs.bodies.peeled_bodies_move.Goals as goal

pub returns-clause-peeled : goal.returns-clause-peeled
returns-clause-peeled c = peeled_moves

pub returns-clause-counts : goal.returns-clause-counts
returns-clause-counts c = counts_stay
