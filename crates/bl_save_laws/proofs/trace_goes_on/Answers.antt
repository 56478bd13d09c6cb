use Rattle.bl_save_laws.proofs.StateLaws.{trace-goes_on}
use Rattle.bl_save_laws.proofs.trace_goes_on.Goals as goal

pub returns : goal.returns
returns c = trace-goes_on
