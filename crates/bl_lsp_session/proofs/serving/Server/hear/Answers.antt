use Rattle.std.proofs.Common.{◌∙◌, refl, subst}
use Rattle.bl_lsp_session.specs.inner.Heard.{IsHeard}
use Rattle.bl_lsp_session.proofs.Ending.{hear_ends, short_ends}
use Rattle.bl_lsp_session.proofs.serving.Server.hear.Goals as goal

pub returns-in-Ok-clause-hears : goal.returns-in-Ok-clause-hears
returns-in-Ok-clause-hears g c =
    hear_ends c.args.self.now.phase c.args.self.now.framer.got c.in-Ok.heard c.send.new.self (g.O.Sink.held c.args.out.now)
    (g.O.Sink.held c.send.new.out) c.send.result
    (subst (λ content. IsHeard c.args.self.now.phase content c.in-Ok.heard) c.content.ensures c.in-Ok.ensures)
    (c.send.ensures.framer ∙ c.go_on.ensures) c.send.ensures.sends

pub returns-in-Err-clause-hears : goal.returns-in-Err-clause-hears
returns-in-Err-clause-hears g c =
    short_ends c.args.self.now.phase c.args.self.now.framer.got _ (g.O.Sink.held c.args.out.now) (g.O.Sink.held c.written.new.out) c.written.result
    c.go_on.ensures refl c.written.ensures.writes
