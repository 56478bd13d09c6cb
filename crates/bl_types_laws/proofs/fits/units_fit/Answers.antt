use Rattle.bl_types_laws.proofs.Entry.{entry_is_driven}
use Rattle.bl_types_laws.proofs.Units.{unit_passes}
use Rattle.bl_types_laws.proofs.fits.units_fit.Goals as goal

pub returns-clause-one : goal.returns-clause-one
returns-clause-one c = unit_passes

pub returns-clause-entry : goal.returns-clause-entry
returns-clause-entry c = entry_is_driven
