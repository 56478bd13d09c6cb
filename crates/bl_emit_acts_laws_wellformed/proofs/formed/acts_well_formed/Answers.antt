use Rattle.bl_emit_acts_laws_wellformed.proofs.OnFormed.WholeActs.{acts}
use Rattle.bl_emit_acts_laws_wellformed.proofs.formed.acts_well_formed.Goals as goal

pub returns : goal.returns
returns c program = acts program.structs program.units program.entry
