use Rattle.bl_lsp_session.specs.Sessions.{at_end, fails}
use Rattle.bl_lsp_session.proofs.Feeding.{at-stream-end}
use Rattle.bl_lsp_session.proofs.Streams.{read_ends}
use Rattle.bl_lsp_session.proofs.serving.next.Goals as goal

pub returns-in-Ok-eq0-clause-reads : goal.returns-in-Ok-eq0-clause-reads
returns-in-Ok-eq0-clause-reads g c =
    at_end (at-stream-end (g.F.Files.left c.args.input.now c.args.name.now) (g.F.Files.left c.next.new.self c.args.name.now) c.in-Ok-eq0.field-0
    c.next.new.room c.in-Ok-eq0.field-0-test c.in-Ok-eq0.ensures.front)

pub returns-in-Ok-clause-reads : goal.returns-in-Ok-clause-reads
returns-in-Ok-clause-reads g c =
    read_ends c.args.server.now c.feed.new.self (g.F.Files.left c.args.input.now c.args.name.now) (g.F.Files.left c.next.new.self c.args.name.now)
    (g.O.Sink.held c.args.out.now) (g.O.Sink.held c.feed.new.out) c.in-Ok.n c.next.new.room c.feed.result c.in-Ok.ensures.front c.feed.ensures.goes

pub returns-in-Err-clause-reads : goal.returns-in-Err-clause-reads
returns-in-Err-clause-reads g c = fails
