use Rattle.std.proofs.Common.{◌≡◌, ◌≤◌, ◌++◌, length, drop, take, None}
use Rattle.bl_ctext_semantics.specs.Cells.{cells_of}
use Rattle.bl_crun_ports.specs.Layout.{kinds_of}
use Rattle.bl_save.specs.States.{with_numbers}
use Rattle.bl_save.proofs.States.{numbers_in}
use Rattle.bl_save.proofs.Walks.{left_at}
use Rattle.bl_save.proofs.restoring.put_cells.Given as goal

-- the cells that were set and the numbers of those that are left, whose bytes have the shape of cells
abbrev pub invariant-loop-k : goal.invariant-loop-k
invariant-loop-k l = record {
  same : l.runner ≡ with_numbers l.initial.runner l.runner.cells;
  whole : length l.runner.cells ≡ length (cells_of l.initial.runner.parts);
  within : l.at ≤ length l.bytes;
  fits : left_at (kinds_of l.initial.runner.parts) l.bytes l.k l.at ≡ None;
  numbers : take l.k l.runner.cells ++ numbers_in (drop l.k (kinds_of l.initial.runner.parts)) (drop l.at l.bytes)
      ≡ numbers_in (kinds_of l.initial.runner.parts) (drop 10 l.bytes);
}
