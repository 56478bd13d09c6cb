-- The drive, and what is told of it.
use Rattle.std.proofs.Common.{◌∙◌, ap, inr, map}
use Rattle.std.proofs.lemmas.Result.{IfOk-weaker}
use Rattle.bl_plant_drive_report.proofs.Kept.{at_err, is_driven, report_is}
use Rattle.bl_plant.specs.declared.log.PlantName.{PlantName}
use Rattle.bl_plant_drive_report.proofs.driving.run.Goals as goal

pub returns-clause-report : goal.returns-clause-report
returns-clause-report g c =
    let same = ap (map (λ (n : PlantName). n.number)) c.deref.ensures.value ∙ c.in_ok-named.ensures in
    IfOk-weaker c.report_of.result _ _
    (λ report tells. report_is _ _ _ _ _ same _ _ _ _ c.drive-how.ensures _ report c.outputs.ensures tells)
    c.report_of.ensures

pub returns-clause-left : goal.returns-clause-left
returns-clause-left g c =
    let same = ap (map (λ (n : PlantName). n.number)) c.deref.ensures.value ∙ c.in_ok-named.ensures in
    at_err c.report_of.result _ (inr (_, (_, is_driven _ _ _ _ _ same _ _ _ _ c.drive-how.ensures)))
