use Rattle.bl_module_files.proofs.Sizes.{fronts_fail, fronts_pass}
use Rattle.bl_module_files.proofs.laws.fronts_are_judged_as_wholes.Goals as goal

pub returns-clause-fails : goal.returns-clause-fails
returns-clause-fails c = fronts_fail

pub returns-clause-passes : goal.returns-clause-passes
returns-clause-passes c = fronts_pass
