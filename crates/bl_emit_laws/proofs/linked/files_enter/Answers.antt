use Rattle.bl_emit_laws.proofs.OnLinked.Entered.{all_enter}
use Rattle.bl_emit_laws.proofs.linked.files_enter.Goals as goal

pub returns : goal.returns
returns c = all_enter c.calls_decide.ensures c.written_is_kept.ensures
