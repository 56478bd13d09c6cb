-- What is driven has the trace of the program.
use Rattle.std.proofs.Common.{inl, refl}
use Rattle.std.proofs.lemmas.Result.{IfErr-weaker, IfOk-weaker}
use Rattle.bl_top.proofs.Driven.{may_have_driven, report_told}
use Rattle.bl_top.proofs.drive.report_of.Goals as goal

pub returns-in-Ok-clause-report : goal.returns-in-Ok-clause-report
returns-in-Ok-clause-report g c =
    IfOk-weaker c.run.result _ _
    (λ report h. report_told _ _ _ c.in-Ok.runner _ _ _ c.in-Ok.ensures.one_trace c.in-Ok.ensures.fresh report h) c.run.ensures.report

pub returns-in-Ok-clause-left : goal.returns-in-Ok-clause-left
returns-in-Ok-clause-left g c =
    IfErr-weaker c.run.result _ _
    (λ e h. may_have_driven _ _ _ c.in-Ok.runner _ _ _ c.in-Ok.ensures.one_trace c.in-Ok.ensures.fresh h) c.run.ensures.left

pub returns-in-Err-clause-left : goal.returns-in-Err-clause-left
returns-in-Err-clause-left g c = inl refl
