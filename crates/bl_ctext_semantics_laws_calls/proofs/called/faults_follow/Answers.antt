use Rattle.bl_ctext_semantics_laws_calls.proofs.OnCalled.{follow}
use Rattle.bl_ctext_semantics_laws_calls.proofs.called.faults_follow.Goals as goal

pub returns : goal.returns
returns c = follow
