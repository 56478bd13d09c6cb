use Rattle.bl_cparse_syntax.proofs.Once.{one_failure, no_failure}
use Rattle.bl_cparse_syntax.proofs.laws.first_failure_is_one.Goals as goal

pub returns-clause-one : goal.returns-clause-one
returns-clause-one c = one_failure

pub returns-clause-none : goal.returns-clause-none
returns-clause-none c = no_failure
