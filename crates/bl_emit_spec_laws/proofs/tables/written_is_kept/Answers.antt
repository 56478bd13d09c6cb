use Rattle.bl_emit_spec_laws.proofs.OnTables.Kept.{all_kept}
use Rattle.bl_emit_spec_laws.proofs.tables.written_is_kept.Goals as goal

pub returns : goal.returns
returns c = all_kept
