use Rattle.bl_emit_functions_laws_wellformed.proofs.OnNumbered.Whole.{by_counts}
use Rattle.bl_emit_functions_laws_wellformed.proofs.numbered.counts_number.Goals as goal

pub returns : goal.returns
returns c program =
    by_counts program.structs program.units program.entry (c.units_counted.ensures program)
