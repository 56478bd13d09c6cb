use Rattle.std.proofs.Common.{◌≤◌, ◌-◌, length, take}
use Rattle.bl_io.specs.Held.{Appends}
use Rattle.bl_io.proofs.pieces.write_all.Given as goal

abbrev pub invariant-loop-written : goal.invariant-loop-written
invariant-loop-written g l = record {
  bound : l.written ≤ length l.bytes;
  front : Appends (g.O.Sink.held l.initial.out) (take l.written l.bytes) (g.O.Sink.held l.out);
  counts : g.O.Sink.faults l.initial.out ≤ g.O.Sink.faults l.out;
}

abbrev pub decreases-loop-written : goal.decreases-loop-written
decreases-loop-written g l = length l.bytes - l.written
