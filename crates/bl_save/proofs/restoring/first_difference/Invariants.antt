use Rattle.std.proofs.Common.{◌≡◌, ◌≤◌, ◌++◌, List, map, length}
use Rattle.bl_save.specs.inner.Shapes.{Allowed, exactly, misfit}
use Rattle.bl_save.proofs.Walks.{later, left_in}
use Rattle.bl_save.proofs.restoring.first_difference.Given as goal

-- how the bytes from here on leave what is wanted
abbrev pub invariant-loop-k : goal.invariant-loop-k
invariant-loop-k l = record {
  within : l.k ≤ length l.bytes;
  left : (shape : List Allowed) → misfit (map exactly l.wanted ++ shape) l.bytes ≡ later l.k (left_in l.wanted shape l.bytes l.k);
}
