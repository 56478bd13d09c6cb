use Rattle.bl_names_laws_files.proofs.Among.{file_named as named_among}
use Rattle.bl_names_laws_files.proofs.files.file_named.Goals as goal

pub returns : goal.returns
returns c = named_among c.names_agree.ensures
