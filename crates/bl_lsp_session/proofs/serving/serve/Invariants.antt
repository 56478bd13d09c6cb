use Rattle.std.proofs.Common.{◌≤◌, ◌<◌, length}
use Rattle.bl_io.specs.Count.{NeverFell}
use Rattle.bl_lsp_session.specs.Sessions.{HasRead, at_first}
use Rattle.bl_lsp_session.proofs.serving.serve.Given as goal

abbrev pub invariant-loop : goal.invariant-loop
invariant-loop g l = record {
  read : HasRead at_first (g.F.Files.left l.initial.input l.name) l.server (g.F.Files.left l.input l.name) (g.O.Sink.held l.initial.out) (g.O.Sink.held l.out);
  in_counts : NeverFell (g.F.Files.faults l.initial.input) (g.F.Files.faults l.input);
  out_counts : g.O.Sink.faults l.initial.out ≤ g.O.Sink.faults l.out;
}
