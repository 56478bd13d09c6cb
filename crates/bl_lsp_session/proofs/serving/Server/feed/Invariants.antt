use Rattle.std.proofs.Common.{◌≤◌, take}
use Rattle.bl_lsp_session.specs.Sessions.{HasFed}
use Rattle.bl_lsp_session.proofs.serving.Server.feed.Given as goal

abbrev pub invariant-loop-byte : goal.invariant-loop-byte
invariant-loop-byte g l = record {
  fed : HasFed l.initial.self (take l.byte-index l.piece) l.self (g.O.Sink.held l.initial.out) (g.O.Sink.held l.out);
  counts : g.O.Sink.faults l.initial.out ≤ g.O.Sink.faults l.out;
}
