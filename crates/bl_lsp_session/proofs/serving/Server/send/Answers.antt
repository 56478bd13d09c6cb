use Rattle.std.proofs.Common.{refl, subst}
use Rattle.bl_io.specs.Held.{Appends}
use Rattle.bl_lsp_session.specs.declared.serving.Server.{Server}
use Rattle.bl_lsp_session.proofs.Ending.{send_ends, send_fails}
use Rattle.bl_lsp_session.proofs.serving.Server.send.Goals as goal

pub returns-in-On-clause-sends : goal.returns-in-On-clause-sends
returns-in-On-clause-sends g c =
    let behind : Server = record { framer = c.args.self.now.framer; phase = c.args.heard.now.phase } in
    send_ends c.args.heard.now behind (g.O.Sink.held c.args.out.now) (g.O.Sink.held c.written.new.out) c.left.result c.left.ensures
    (subst (λ bytes. Appends (g.O.Sink.held c.args.out.now) bytes (g.O.Sink.held c.written.new.out)) c.as_slice.ensures.value c.in-On.ensures.writes)
    refl

pub returns-in-Over-clause-sends : goal.returns-in-Over-clause-sends
returns-in-Over-clause-sends g c =
    let behind : Server = record { framer = c.args.self.now.framer; phase = c.args.heard.now.phase } in
    send_fails c.args.heard.now behind c.as_slice.result.now (g.O.Sink.held c.args.out.now) (g.O.Sink.held c.written.new.out) c.in-Over.ended
    c.in-Over.ensures.writes
