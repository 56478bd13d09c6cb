use Rattle.bl_lex.proofs.FrontLaws.{fault_begins_no_token, nothing_else}
use Rattle.bl_lex.proofs.front.kept_piece_at.Goals as goal

pub returns-in-Outside : goal.returns-in-Outside
returns-in-Outside c = nothing_else c.args.text.now c.args.at c.in-Ok.piece.end c.in-Ok.piece.form c.in-Ok.ensures.piece c.in-Outside.is

pub returns-in-Err : goal.returns-in-Err
returns-in-Err c = fault_begins_no_token c.args.text.now c.args.at c.in-Err.field-0 c.in-Err.ensures.0 c.in-Err.ensures.1
