use Rattle.std.proofs.Common.{◌≤◌, ◌-◌, length}
use Rattle.bl_io.specs.Count.{NeverFell}
use Rattle.bl_io.specs.Left.{KeepsOthers}
use Rattle.bl_io.proofs.Left.{HasRead}
use Rattle.bl_io.proofs.pieces.read_up_to.Given as goal

abbrev pub invariant-loop-room : goal.invariant-loop-room
invariant-loop-room g l = record {
  bound : length l.got.items ≤ l.limit;
  read : HasRead (g.F.Files.left l.initial.files l.name) l.got.items (g.F.Files.left l.files l.name);
  others : KeepsOthers l.name (g.F.Files.left l.initial.files) (g.F.Files.left l.files);
  counts : NeverFell (g.F.Files.faults l.initial.files) (g.F.Files.faults l.files);
}

abbrev pub decreases-loop-room : goal.decreases-loop-room
decreases-loop-room g l = l.limit - length l.got.items
