use Rattle.std.proofs.Common.{◌≡◌, ◌+◌, ◌++◌, drop}
use Rattle.bl_walk.specs.Lines.{tick_lines_from}
use Rattle.bl_walk.proofs.notes.lines.Given as goal

abbrev pub invariant-ticks : goal.invariant-ticks
invariant-ticks l = record {
  text : l.text.items ++ tick_lines_from l.tick (drop l.places-index l.ticks) ≡ tick_lines_from 1 l.ticks;
  tick : l.tick ≡ l.places-index + 1;
}
