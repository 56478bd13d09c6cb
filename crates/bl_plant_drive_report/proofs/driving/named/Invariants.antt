use Rattle.std.proofs.Common.{◌≡◌, ◌++◌, drop, map}
use Rattle.bl_plant_drive_report.proofs.driving.named.Given as goal

abbrev pub invariant-names : goal.invariant-names
invariant-names l = map (λ n. n.number) l.named.items ++ drop l.number-index l.names ≡ l.names
