use Rattle.bl_grammar.proofs.Splits.{one_split}
use Rattle.bl_cparse_syntax.specs.Classes.{matches}
use Rattle.bl_cparse_syntax.specs.Grammar.{Produces}
use Rattle.bl_cparse_syntax.specs.Stack.{tables}
use Rattle.bl_cparse_syntax.proofs.Predictive.{predictive}
use Rattle.bl_cparse_syntax.proofs.laws.a_text_is_read_in_one_way.Goals as goal

pub returns : goal.returns
returns c = λ front pieces between other wanted rest stands. one_split Produces matches tables predictive wanted rest pieces between other stands.good
