use Rattle.bl_types_laws.proofs.Paths.{all_lent_fit, lent_fits, target_assignable}
use Rattle.bl_types_laws.proofs.fits.paths_fit.Goals as goal

pub returns-clause-one : goal.returns-clause-one
returns-clause-one c = lent_fits

pub returns-clause-all : goal.returns-clause-all
returns-clause-all c = all_lent_fit

pub returns-clause-assigned : goal.returns-clause-assigned
returns-clause-assigned c = target_assignable
