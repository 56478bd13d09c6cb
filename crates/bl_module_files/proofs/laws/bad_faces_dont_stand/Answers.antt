use Rattle.bl_module_files.proofs.Told.{bad_dont_stand}
use Rattle.bl_module_files.proofs.laws.bad_faces_dont_stand.Goals as goal

pub returns : goal.returns
returns c = bad_dont_stand
