use Rattle.bl_emit_spec_laws_files.proofs.OnFiles.Standing.{files_stand}
use Rattle.bl_emit_spec_laws_files.proofs.files.files_stand.Goals as goal

pub returns : goal.returns
returns c = files_stand
