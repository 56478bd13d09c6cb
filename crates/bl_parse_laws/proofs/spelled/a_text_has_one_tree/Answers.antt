use Rattle.bl_parse_laws.proofs.OnlyProgram.{same_tree}
use Rattle.bl_parse_laws.proofs.spelled.a_text_has_one_tree.Goals as goal

pub returns : goal.returns
returns c = same_tree
