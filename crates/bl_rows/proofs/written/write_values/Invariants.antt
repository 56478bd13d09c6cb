use Rattle.std.proofs.Common.{◌≡◌, ◌+◌, ◌*◌, ◌≤◌, ◌++◌, drop, length, take}
use Rattle.bl_rows.specs.Text.{values_text}
use Rattle.bl_rows.proofs.written.write_values.Given as goal

abbrev pub invariant-outs : goal.invariant-outs
invariant-outs l = record {
  front :
      take l.end l.room ++ values_text (drop l.k l.outs) (drop l.k l.row) ≡ take l.at l.initial.room ++ values_text l.outs l.row;
  few : l.end ≤ l.at + 41 * l.k;
  size : length l.room ≡ length l.initial.room;
}
