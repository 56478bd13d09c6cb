use Rattle.bl_parse_laws.proofs.Programs.{spells_program}
use Rattle.bl_parse_laws.proofs.spelled.what_is_spelled_is_a_program.Goals as goal

pub returns : goal.returns
returns c = spells_program
