use Rattle.std.proofs.Common.{◌-◌}
use Rattle.bl_io.specs.Count.{NeverFell}
use Rattle.bl_io.specs.Left.{KeepsOthers}
use Rattle.bl_rows_stream.specs.inner.Going.{most_reach, reach}
use Rattle.bl_rows_stream.specs.inner.Taking.{Taken}
use Rattle.bl_rows_stream.proofs.gathered.gather.Given as goal

abbrev pub invariant-pieces : goal.invariant-pieces
invariant-pieces g l = record {
  taken : Taken l.fn.columns (g.F.Files.left l.initial.files l.name) (g.F.Files.left l.files l.name) l.reader l.rows.items;
  others : KeepsOthers l.name (g.F.Files.left l.initial.files) (g.F.Files.left l.files);
  file_counts : NeverFell (g.F.Files.faults l.initial.files) (g.F.Files.faults l.files);
}

abbrev pub decreases-pieces : goal.decreases-pieces
decreases-pieces g l = most_reach - reach l.reader
