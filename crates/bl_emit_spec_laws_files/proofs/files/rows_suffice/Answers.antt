use Rattle.bl_emit_spec_laws_files.proofs.OnFiles.Rows.{rows_suffice}
use Rattle.bl_emit_spec_laws_files.proofs.files.rows_suffice.Goals as goal

pub returns : goal.returns
returns c = rows_suffice
