use Rattle.std.proofs.Common.{length, ◌-◌, ◌≤◌}
use Rattle.bl_lex.specs.inner.Walk.{IsScanned}
use Rattle.bl_lex.proofs.scan.lex.Given as goal

abbrev pub invariant-loop-at : goal.invariant-loop-at
invariant-loop-at l = record { inside : l.at ≤ length l.text; short : length l.text ≤ 1048576; scanned : IsScanned l.text l.at l.scan }

abbrev pub decreases-loop-at : goal.decreases-loop-at
decreases-loop-at l = length l.text - l.at
