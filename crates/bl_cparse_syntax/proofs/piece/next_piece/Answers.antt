use Rattle.std.proofs.Common.{sym, ◌∙◌}
use Rattle.bl_cparse_syntax.proofs.PieceLemmas.{left_cut}
use Rattle.bl_cparse_syntax.proofs.piece.next_piece.Goals as goal

pub returns-then-start-text-clause-left : goal.returns-then-start-text-clause-left
returns-then-start-text-clause-left c =
    left_cut c.args.text.now c.blanks_end-start.result c.piece_end-end.result c.piece_end-end.ensures.beyond c.piece_end-end.ensures.inside
    ∙ (sym c.piece_end-end.ensures.cut ∙ c.blanks_end-start.ensures.same)
