use Rattle.bl_cause_trees.proofs.KeptUnits.{kept_passes}
use Rattle.bl_cause_trees.proofs.program.check_units.Goals as goal

pub returns-in-Ok-clause-passes : goal.returns-in-Ok-clause-passes
returns-in-Ok-clause-passes c = kept_passes c.args.units.now c.in-Ok.field-0 c.in-Ok.ensures.kept
