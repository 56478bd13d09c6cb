use Rattle.std.proofs.Common.{◌≡◌, ◌++◌, drop}
use Rattle.bl_plant_drive_report.specs.Lines.{gone_lines}
use Rattle.bl_plant_drive_report.proofs.lines.gone_lines.Given as goal

abbrev pub invariant-gone : goal.invariant-gone
invariant-gone l = l.text.items ++ gone_lines (drop l.plant-index l.gone) ≡ gone_lines l.gone
