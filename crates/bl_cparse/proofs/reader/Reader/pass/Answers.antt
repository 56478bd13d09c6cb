use Rattle.std.proofs.Common.{sym, ap, ◌∙◌, drop}
use Rattle.bl_cparse_syntax.proofs.PieceLemmas.{behind_left}
use Rattle.bl_cparse.proofs.reader.Reader.pass.Goals as goal

pub returns : goal.returns
returns c =
    c.next_piece-next.ensures.left
    ∙ (sym (behind_left c.self.inside.text.now c.self.inside.start c.self.inside.end c.self.invariant.in_order
    c.self.invariant.inside c.self.invariant.at_end)
    ∙ ap (λ ts. drop 1 ts) c.self.view_is)
