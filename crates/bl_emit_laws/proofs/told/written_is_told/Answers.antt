use Rattle.bl_emit_laws.proofs.OnTold.Units.{written_is_told}
use Rattle.bl_emit_laws.proofs.told.written_is_told.Goals as goal

pub returns : goal.returns
returns c = written_is_told c.activities_are_told.ensures
