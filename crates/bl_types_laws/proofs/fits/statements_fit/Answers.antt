use Rattle.bl_types_laws.proofs.Blocks.{statement_fits, statements_fit}
use Rattle.bl_types_laws.proofs.fits.statements_fit.Goals as goal

pub returns-clause-one : goal.returns-clause-one
returns-clause-one c = statement_fits

pub returns-clause-all : goal.returns-clause-all
returns-clause-all c = statements_fit
