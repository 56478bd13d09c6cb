use Rattle.bl_ctext_semantics_laws_calls.proofs.OnKnown.{decide}
use Rattle.bl_ctext_semantics_laws_calls.proofs.known.calls_decide.Goals as goal

pub returns : goal.returns
returns c = decide
