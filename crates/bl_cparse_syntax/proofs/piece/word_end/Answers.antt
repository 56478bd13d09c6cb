use Rattle.std.proofs.Common.{sym, ◌∙◌, arith}
use Rattle.bl_cparse_syntax.proofs.PieceLemmas.{word_first, word_next, word_at}
use Rattle.bl_cparse_syntax.proofs.piece.word_end.Goals as goal

pub loop-end-init : goal.loop-end-init
loop-end-init c = record {
  beyond = omega arith;
  inside = omega (arith, c.requires.inside);
  word =
      word_first c.args.text.now c.args.start c.requires.inside c.requires.letter;
}

pub loop-end-preserved : goal.loop-end-preserved
loop-end-preserved c = record {
  beyond = omega (arith, c.loop-end.invariant.beyond);
  inside = omega (arith, c.loop-end-test.true);
  word = word_next c.args.text.now c.args.start c.loop-end.end (omega (arith, c.loop-end.invariant.beyond)) c.loop-end-test.true c.loop-end.invariant.word
      (sym c.is_word_byte.ensures ∙ c.if-is_word_byte.true);
}

pub returns-else-is_word_byte-clause-cut : goal.returns-else-is_word_byte-clause-cut
returns-else-is_word_byte-clause-cut c =
    word_at c.args.text.now c.args.start c.loop-end.end c.loop-end.invariant.beyond c.loop-end.invariant.inside c.loop-end.invariant.word
    (λ inside. sym c.is_word_byte.ensures ∙ c.if-is_word_byte.false)

pub returns-after-loop-end-clause-cut : goal.returns-after-loop-end-clause-cut
returns-after-loop-end-clause-cut c =
    word_at c.args.text.now c.args.start c.loop-end.end c.loop-end.invariant.beyond c.loop-end.invariant.inside c.loop-end.invariant.word
    (λ inside. absurd (omega (arith, inside, c.loop-end-test.false)))
