use Rattle.bl_simplify_laws.proofs.OnOutcomes.{is_said, says}
use Rattle.bl_simplify_laws.proofs.outcomes.alike_says.Goals as goal

pub returns : goal.returns
returns c = record { says = says; is_said = is_said }
