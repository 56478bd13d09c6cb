use Rattle.std.proofs.Common.{◌≡◌, ◌++◌, drop}
use Rattle.bl_tree.specs.Ports.{in_ranges}
use Rattle.bl_crun_ports.specs.Layout.{kinds_of}
use Rattle.bl_save.specs.Bytes.{cells_bytes}
use Rattle.bl_save.proofs.saving.push_cells.Given as goal

-- what is left to write, and to be in its range
abbrev pub invariant-loop-k : goal.invariant-loop-k
invariant-loop-k l = record {
  written : l.bytes.items ++ cells_bytes (drop l.k (kinds_of l.runner.parts)) (drop l.k l.runner.cells)
      ≡ l.initial.bytes.items ++ cells_bytes (kinds_of l.runner.parts) l.runner.cells;
  range : in_ranges (drop l.k (kinds_of l.runner.parts)) (drop l.k l.runner.cells) ≡ in_ranges (kinds_of l.runner.parts) l.runner.cells;
}
