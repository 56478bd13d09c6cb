use Rattle.bl_emit_laws.proofs.OnKept.Ends.{files_end}
use Rattle.bl_emit_laws.proofs.kept.files_end.Goals as goal

pub returns : goal.returns
returns c program = files_end program c.written_is_kept.ensures
