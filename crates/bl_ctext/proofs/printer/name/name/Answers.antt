use Rattle.bl_ctext.proofs.Words.{name-token}
use Rattle.bl_ctext.proofs.printer.name.name.Goals as goal

pub token-requires : goal.token-requires
token-requires c = name-token c.args.word.now c.requires
