use Rattle.std.proofs.Common.{rules}
use Rattle.bl_lex.proofs.Signs.{slash_sign}
use Rattle.bl_lex.proofs.PieceLaws.{longest_line_comment, longest_slash}
use Rattle.bl_lex.proofs.piece.slash_at.Goals as goal

pub returns-then-has_byte : goal.returns-then-has_byte
returns-then-has_byte c = longest_line_comment _ _ _ c.line_end.ensures

pub returns-else-has_byte-2 : goal.returns-else-has_byte-2
returns-else-has_byte-2 c = longest_slash _ _ _ c.requires.first (λ e. let t = c.if-has_byte.ensures.1 e in search rules)
    (λ e. let t = c.if-has_byte-2.ensures.1 e in search rules)
    (slash_sign _ _ c.requires.inside c.requires.first (λ e. let t = c.if-has_byte-2.ensures.1 e in search rules))
