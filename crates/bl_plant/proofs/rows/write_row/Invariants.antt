use Rattle.std.proofs.Common.{◌≡◌, length, take}
use Rattle.bl_plant.proofs.rows.write_row.Given as goal

abbrev pub invariant-loop-k : goal.invariant-loop-k
invariant-loop-k l = record {
  long : length l.into ≡ length l.from;
  front : take l.k l.into ≡ take l.k l.from;
}
