use Rattle.std.proofs.Common.{sym, ◌∙◌}
use Rattle.bl_cparse_syntax.proofs.PieceLemmas.{pair_is, pair_at, single_at}
use Rattle.bl_cparse_syntax.proofs.piece.piece_end.Goals as goal

pub returns-then-is_pair-clause-cut : goal.returns-then-is_pair-clause-cut
returns-then-is_pair-clause-cut c =
    let pair = pair_is c.args.text.now c.args.start (sym c.is_pair.ensures ∙ c.if-is_pair.true) in
    pair_at c.args.text.now c.args.start pair.0 pair.1

pub returns-else-is_pair-clause-cut : goal.returns-else-is_pair-clause-cut
returns-else-is_pair-clause-cut c =
    single_at c.args.text.now c.args.start c.requires.inside c.requires.no_blank
    (sym c.is_word_byte.ensures ∙ c.if-is_word_byte.false) (sym c.is_pair.ensures ∙ c.if-is_pair.false)
