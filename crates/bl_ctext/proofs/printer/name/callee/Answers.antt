use Rattle.bl_ctext.proofs.Words.{callee-token}
use Rattle.bl_ctext.proofs.printer.name.callee.Goals as goal

pub token-requires : goal.token-requires
token-requires c = callee-token c.args.word.now c.requires
