use Rattle.bl_cparse_syntax_laws.proofs.Unique.{tokens_are, one_list}
use Rattle.bl_cparse_syntax_laws.proofs.spelled.tokens_are_pieces.Goals as goal

pub returns-clause-cut : goal.returns-clause-cut
returns-clause-cut c = tokens_are

pub returns-clause-one : goal.returns-clause-one
returns-clause-one c = one_list
