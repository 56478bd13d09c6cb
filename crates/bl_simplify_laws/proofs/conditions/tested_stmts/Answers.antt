use Rattle.bl_simplify_laws.proofs.OnConditions.{rule-test}
use Rattle.bl_simplify_laws.proofs.conditions.tested_stmts.Goals as goal

pub returns : goal.returns
returns c = rule-test
