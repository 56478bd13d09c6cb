use Rattle.bl_simplify_laws.proofs.OnRules.{rule-entry, rule-function}
use Rattle.bl_simplify_laws.proofs.rules.function_rules.Goals as goal

pub returns : goal.returns
returns c = record { function = rule-function; entry = rule-entry }
