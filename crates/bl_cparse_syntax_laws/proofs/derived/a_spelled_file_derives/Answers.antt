use Rattle.bl_cparse_syntax_laws.proofs.Files.{file_derives}
use Rattle.bl_cparse_syntax_laws.proofs.derived.a_spelled_file_derives.Goals as goal

pub returns : goal.returns
returns c = file_derives
