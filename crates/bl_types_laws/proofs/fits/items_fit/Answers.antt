use Rattle.bl_types_laws.proofs.Items.{constant_between, struct_between}
use Rattle.bl_types_laws.proofs.fits.items_fit.Goals as goal

pub returns-clause-structure : goal.returns-clause-structure
returns-clause-structure c = struct_between

pub returns-clause-constant : goal.returns-clause-constant
returns-clause-constant c = constant_between
