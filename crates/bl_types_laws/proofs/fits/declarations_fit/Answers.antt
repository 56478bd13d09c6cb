use Rattle.bl_types_laws.proofs.Initials.{constant_fits, initial_fits}
use Rattle.bl_types_laws.proofs.fits.declarations_fit.Goals as goal

pub returns-clause-initial : goal.returns-clause-initial
returns-clause-initial c = initial_fits

pub returns-clause-constant : goal.returns-clause-constant
returns-clause-constant c = constant_fits
