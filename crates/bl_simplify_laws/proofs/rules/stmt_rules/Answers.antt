use Rattle.bl_simplify_laws.proofs.OnRules.{rule-if, rule-itself}
use Rattle.bl_simplify_laws.proofs.OnWritten.{rule-loop, rule-loop-by}
use Rattle.bl_simplify_laws.proofs.rules.stmt_rules.Goals as goal

pub returns : goal.returns
returns c = record { itself = rule-itself; branches = rule-if; turns = rule-loop; turns_by = rule-loop-by }
