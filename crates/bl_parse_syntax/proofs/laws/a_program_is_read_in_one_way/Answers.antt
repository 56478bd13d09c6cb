use Rattle.bl_grammar.proofs.Splits.{one_split}
use Rattle.bl_parse_syntax.specs.Grammar.{Produces, matches}
use Rattle.bl_parse_syntax.specs.Stack.{tables}
use Rattle.bl_parse_syntax.proofs.Predictive.{predictive}
use Rattle.bl_parse_syntax.proofs.laws.a_program_is_read_in_one_way.Goals as goal

pub returns : goal.returns
returns c = λ front tokens between other symbols rest stands. one_split Produces matches tables predictive symbols rest tokens between other stands.good
