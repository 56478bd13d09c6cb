use Rattle.std.proofs.Common.{◌≡◌, ◌≤◌, drop, length}
use Rattle.bl_crun_ports.specs.Layout.{kinds_of}
use Rattle.bl_save.specs.inner.Shapes.{cells_shape, misfit}
use Rattle.bl_save.proofs.Walks.{later, left_at}
use Rattle.bl_save.proofs.restoring.cells_misfit.Given as goal

-- how the bytes from here on leave the shape of the cells from here on
abbrev pub invariant-loop-k : goal.invariant-loop-k
invariant-loop-k l = record {
  within : l.at ≤ length l.bytes;
  left : later 10 (misfit (cells_shape (kinds_of l.runner.parts)) (drop 10 l.bytes)) ≡
      later l.at (left_at (kinds_of l.runner.parts) l.bytes l.k l.at);
}
