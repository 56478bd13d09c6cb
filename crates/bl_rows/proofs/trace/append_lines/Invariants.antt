use Rattle.std.proofs.Common.{◌≡◌, ◌+◌, ◌++◌, drop}
use Rattle.bl_rows.specs.Text.{lines_from}
use Rattle.bl_rows.proofs.trace.append_lines.Given as goal

abbrev pub invariant-rows : goal.invariant-rows
invariant-rows l = record {
  text : l.text ++ lines_from l.tick l.outs (drop l.row-index l.rows) ≡ l.initial.text ++ lines_from 1 l.outs l.rows;
  tick : l.tick ≡ l.row-index + 1;
}
