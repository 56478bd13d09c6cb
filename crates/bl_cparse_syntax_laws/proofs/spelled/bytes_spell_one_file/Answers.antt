use Rattle.bl_cparse_syntax_laws.proofs.OnlyFile.{one_file}
use Rattle.bl_cparse_syntax_laws.proofs.spelled.bytes_spell_one_file.Goals as goal

pub returns : goal.returns
returns c = one_file
