use Rattle.bl_simplify_walk.proofs.OnForms.{form-turns}
use Rattle.bl_simplify_walk.proofs.rules.turn_forms.Goals as goal

pub returns : goal.returns
returns c = form-turns c.block_rules.ensures.weaker c.stmt_rules.ensures.turns
