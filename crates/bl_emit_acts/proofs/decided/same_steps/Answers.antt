use Rattle.std.proofs.Common.{sym}
use Rattle.bl_emit_acts.proofs.StepLemmas.{lengths_same}
use Rattle.bl_emit_acts.proofs.decided.same_steps.Goals as goal

pub returns-then-ps-qs : goal.returns-then-ps-qs
returns-then-ps-qs c = sym (lengths_same c.args.ps.now c.args.qs.now c.if-ps-qs.true)
