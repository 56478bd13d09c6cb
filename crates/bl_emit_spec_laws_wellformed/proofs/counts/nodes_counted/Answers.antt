use Rattle.bl_emit_spec_laws_wellformed.proofs.OnCounts.Whole.{counted}
use Rattle.bl_emit_spec_laws_wellformed.proofs.counts.nodes_counted.Goals as goal

pub returns : goal.returns
returns c program = counted program.structs program.units program.entry
