use Rattle.bl_emit_spec_laws.proofs.OnCleared.Clearing.{clearing_is_inside}
use Rattle.bl_emit_spec_laws.proofs.cleared.clearing_is_inside.Goals as goal

pub returns : goal.returns
returns c = clearing_is_inside
