use Rattle.std.proofs.Common.{◌∙◌}
use Rattle.bl_cparse_syntax.specs.Tables.{absent}
use Rattle.bl_cparse_syntax.proofs.Picking.{picked, none_picked}
use Rattle.bl_cparse_syntax.proofs.choice.pick.Goals as goal

pub returns-in-Some : goal.returns-in-Some
returns-in-Some c =
    c.roomed.ensures c.args.piece.now (absent c.args.whole.part)
    ∙ picked c.args.whole c.args.piece.now _ _ c.productions_of-productions.ensures.choices c.in-Some.ensures

pub returns-in-None : goal.returns-in-None
returns-in-None c =
    c.empty_if.ensures c.args.whole.room c.args.piece.now
    ∙ none_picked c.args.whole c.args.piece.now _ _ c.productions_of-productions.ensures.choices c.in-None.ensures c.productions_of-productions.ensures.absent
