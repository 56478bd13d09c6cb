use Rattle.std.proofs.Common.{◌≡◌, ◌+◌, true, length, drop}
use Rattle.bl_ctext_semantics.specs.Cells.{inputs_of, outputs_of}
use Rattle.bl_tree.specs.Ports.{RowsFit}
use Rattle.bl_rows_stream.proofs.RowLoop.{Onward}
use Rattle.bl_rows_stream.proofs.ticks.run.Given as goal

abbrev pub invariant-rows : goal.invariant-rows
invariant-rows l = record {
  onward :
      Onward l.initial.ticks.report l.initial.runner l.rows l.initial.ticks.done l.initial.text l.runner
      (drop l.row-index l.rows) l.ticks.done l.text;
  parts : l.runner.parts ≡ l.initial.runner.parts;
  live : l.runner.live ≡ true;
  fit : RowsFit (inputs_of l.initial.runner.parts) (drop l.row-index l.rows);
  long : length l.ticks.outputs ≡ length (outputs_of l.initial.runner.parts);
  report : l.ticks.report ≡ l.initial.ticks.report;
  done : l.ticks.done ≡ l.initial.ticks.done + l.row-index;
}
