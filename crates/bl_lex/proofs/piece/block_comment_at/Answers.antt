use Rattle.bl_lex.proofs.PieceLaws.{longest_block_comment}
use Rattle.bl_lex.proofs.piece.block_comment_at.Goals as goal

pub returns-in-Some : goal.returns-in-Some
returns-in-Some c = longest_block_comment _ _ _ c.in-Some.ensures
