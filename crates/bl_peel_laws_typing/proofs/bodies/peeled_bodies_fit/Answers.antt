use Rattle.bl_peel_laws_typing.proofs.Callees.{fits_asks_no_bodies}
use Rattle.bl_peel_laws_typing.proofs.Fitting.{peeled_fits}
use Rattle.bl_peel_laws_typing.proofs.bodies.peeled_bodies_fit.Goals as goal

pub returns-clause-body : goal.returns-clause-body
returns-clause-body c = peeled_fits

pub returns-clause-callees : goal.returns-clause-callees
returns-clause-callees c = fits_asks_no_bodies
