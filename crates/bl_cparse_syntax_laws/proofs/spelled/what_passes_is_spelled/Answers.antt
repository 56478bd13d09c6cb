use Rattle.bl_cparse_syntax_laws.proofs.Passing.{passing_spelled, spelled_passing}
use Rattle.bl_cparse_syntax_laws.proofs.spelled.what_passes_is_spelled.Goals as goal

pub returns-clause-spelled : goal.returns-clause-spelled
returns-clause-spelled c = passing_spelled

pub returns-clause-passes : goal.returns-clause-passes
returns-clause-passes c = spelled_passing
