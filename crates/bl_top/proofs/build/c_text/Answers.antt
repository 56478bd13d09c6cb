use Rattle.bl_top.proofs.Builds.{text_of_file}
use Rattle.bl_top.proofs.build.c_text.Goals as goal

pub returns-in-Ok : goal.returns-in-Ok
returns-in-Ok c = text_of_file _ _ _ c.in_ok-file.file _ c.in-Ok.ensures c.in_ok-file.ensures
