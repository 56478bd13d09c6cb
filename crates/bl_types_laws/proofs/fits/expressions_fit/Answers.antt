use Rattle.bl_types_laws.proofs.Expressions.{expressions_fit, targets_fit, wanted_fits}
use Rattle.bl_types_laws.proofs.fits.expressions_fit.Goals as goal

pub returns-clause-expressions : goal.returns-clause-expressions
returns-clause-expressions c = expressions_fit

pub returns-clause-targets : goal.returns-clause-targets
returns-clause-targets c = targets_fit

pub returns-clause-wanted : goal.returns-clause-wanted
returns-clause-wanted c = wanted_fits
