use Rattle.bl_emit_spec_laws_wellformed.proofs.OnClosed.Closed.{needed_closed}
use Rattle.bl_emit_spec_laws_wellformed.proofs.closed.needed_closed.Goals as goal

pub returns : goal.returns
returns c program =
    needed_closed program.structs program.units program.entry c.units_use_earlier_ones.ensures
