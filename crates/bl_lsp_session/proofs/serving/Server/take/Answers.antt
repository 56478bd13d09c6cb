use Rattle.std.proofs.Common.{◌∙◌, ap, refl, sym}
use Rattle.bl_lsp.specs.Framing.{Framing}
use Rattle.bl_lsp_session.proofs.Ending.{whole_ends}
use Rattle.bl_lsp_session.proofs.Feeding.{taken-more}
use Rattle.bl_lsp_session.proofs.serving.Server.take.Goals as goal

pub returns-in-Ok-More-clause-takes : goal.returns-in-Ok-More-clause-takes
returns-in-Ok-More-clause-takes g c =
    taken-more c.args.self.now _ c.args.byte (g.O.Sink.held c.args.out.now) (sym c.in-Ok-More.ensures.says ∙ c.in-Ok-More.field-0-is) c.in-Ok-More.ensures.after refl

pub returns-in-Ok-Whole-clause-takes : goal.returns-in-Ok-Whole-clause-takes
returns-in-Ok-Whole-clause-takes g c =
    whole_ends c.args.self.now c.hear.new.self c.args.byte c.take.new.self.got (g.O.Sink.held c.args.out.now) (g.O.Sink.held c.hear.new.out)
    c.hear.result (sym c.in-Ok-Whole.ensures.says ∙ c.in-Ok-Whole.field-0-is) (ap (λ (f : Framing). f.got) c.in-Ok-Whole.ensures.after) c.hear.ensures.hears
