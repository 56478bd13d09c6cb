-- Why nothing was run, and the line that says so.
use Rattle.std.proofs.Common.{subst}
use Rattle.bl_gen_run.specs.Runs.{IsUnrun}
use Rattle.bl_top_commands.proofs.Generated.{not_run_large, not_run_refused}
use Rattle.bl_top_commands.proofs.generate.not_run.Goals as goal

pub returns-in-TooLarge : goal.returns-in-TooLarge
returns-in-TooLarge c = λ stages why.
    not_run_large stages _ _ c.too_large.result (subst (IsUnrun stages) c.in-TooLarge.is why) c.from.ensures c.too_large.ensures

pub returns-in-Refused : goal.returns-in-Refused
returns-in-Refused c = λ stages why. not_run_refused stages _ c.refused.result (subst (IsUnrun stages) c.in-Refused.is why) c.refused.ensures
