use Rattle.bl_types_laws.proofs.TypesStand.{struct_stands, typed_stands, written_stands}
use Rattle.bl_types_laws.proofs.fits.types_stand.Goals as goal

pub returns-clause-written : goal.returns-clause-written
returns-clause-written c = written_stands

pub returns-clause-fields : goal.returns-clause-fields
returns-clause-fields c = struct_stands

pub returns-clause-typed : goal.returns-clause-typed
returns-clause-typed c = typed_stands
