use Rattle.bl_lex.proofs.NameLaws.{names_are_names}
use Rattle.bl_lex.proofs.laws.names_are_names.Goals as goal

pub returns : goal.returns
returns c = names_are_names
