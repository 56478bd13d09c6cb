use Rattle.std.proofs.Common.{sym, ap, ◌∙◌, ◌∷◌}
use Rattle.bl_cparse_syntax.proofs.SameLemmas.{seen}
use Rattle.bl_cparse.proofs.reader.Reader.eat.Goals as goal

pub returns-then-seen-clause-yes : goal.returns-then-seen-clause-yes
returns-then-seen-clause-yes c h =
    seen c.args.self.now c.args.what.now (sym c.sees-seen.ensures.same ∙ c.if-seen.true) c.requires
    ∙ ap (λ ts. c.args.what.now ∷ ts) (sym c.pass.ensures)
