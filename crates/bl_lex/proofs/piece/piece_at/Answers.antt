use Rattle.std.proofs.Common.{sym}
use Rattle.bl_lex.proofs.PieceLaws.{longest_blank, word_or_fault}
use Rattle.bl_lex.proofs.piece.piece_at.Goals as goal

pub returns-then-is_blank : goal.returns-then-is_blank
returns-then-is_blank c = longest_blank _ _ c.requires.inside (sym c.if-is_blank.ensures)

pub returns-then-is_word_byte : goal.returns-then-is_word_byte
returns-then-is_word_byte c = word_or_fault _ _ (sym c.if-is_word_byte.ensures) _ c.word_at.ensures.piece
