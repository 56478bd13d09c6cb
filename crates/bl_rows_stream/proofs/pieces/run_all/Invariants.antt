use Rattle.std.proofs.Common.{◌-◌, ◌≤◌, ℕ, List, [], Option}
use Rattle.bl_io.specs.Count.{NeverFell}
use Rattle.bl_io.specs.Left.{KeepsOthers}
use Rattle.bl_rows_stream.specs.declared.ticks.Report.{Report}
use Rattle.bl_rows_stream.specs.inner.Going.{Going, RunStands, Start, most_reach, reach}
use Rattle.bl_rows_stream.proofs.pieces.run_all.Given as goal

abbrev pub invariant-pieces : goal.invariant-pieces
invariant-pieces g l = record {
  going :
      (report : Report) (start : Start) (before : Option (List ℕ)) →
      RunStands report start l.initial.runner.parts [] before l.initial.session l.initial.runner (g.O.Sink.held l.initial.out) →
      Going report start l.initial.runner.parts (g.F.Files.left l.initial.files l.name) before l.session l.runner (g.F.Files.left l.files l.name)
      (g.O.Sink.held l.out);
  others : KeepsOthers l.name (g.F.Files.left l.initial.files) (g.F.Files.left l.files);
  file_counts : NeverFell (g.F.Files.faults l.initial.files) (g.F.Files.faults l.files);
  out_count : g.O.Sink.faults l.initial.out ≤ g.O.Sink.faults l.out;
}

abbrev pub decreases-pieces : goal.decreases-pieces
decreases-pieces g l = most_reach - reach l.session.reader
