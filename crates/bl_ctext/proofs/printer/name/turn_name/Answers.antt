use Rattle.bl_ctext.proofs.Words.{turn_name-token}
use Rattle.bl_ctext.proofs.printer.name.turn_name.Goals as goal

pub token-requires : goal.token-requires
token-requires c = turn_name-token c.args.word.now c.requires
