use Rattle.std.proofs.Common.{◌≢◌, length, ◌-◌, ◌≤◌}
use Rattle.std.specs.Prelude.{All}
use Rattle.bl_lex.specs.declared.piece.Form.TheVariants.{Outside}
use Rattle.bl_lex.specs.inner.Walk.{IsScanned}
use Rattle.bl_lex.proofs.front.tokens_up_to.Given as goal

abbrev pub invariant-loop-piece : goal.invariant-loop-piece
invariant-loop-piece l = record {
  inside : l.at ≤ length l.text;
  short : length l.text ≤ 1048576;
  scanned : IsScanned l.text l.at l.scan;
  kept : All (λ part. part.form ≢ Outside) scanned.parts;
}

abbrev pub decreases-loop-piece : goal.decreases-loop-piece
decreases-loop-piece l = length l.text - l.at
