use Rattle.bl_emit_spec_laws_wellformed.proofs.OnNumbers.Injective.{numbered}
use Rattle.bl_emit_spec_laws_wellformed.proofs.numbers.nodes_numbered.Goals as goal

pub returns : goal.returns
returns c = numbered
