use Rattle.std.proofs.Common.{◌≡◌, ◌≤◌, length, map, take}
use Rattle.bl_simplify_frames.specs.Told.{part_of}
use Rattle.bl_simplify_frames.proofs.decide.are_same_parts.Given as goal

abbrev pub invariant-loop-k : goal.invariant-loop-k
invariant-loop-k l = record {
  lengths : length l.a ≡ length l.b;
  end : l.k-end ≡ length l.a;
  within : l.k ≤ length l.a;
  same : map part_of (take l.k l.a) ≡ map part_of (take l.k l.b);
}
