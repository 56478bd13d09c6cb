use Rattle.bl_ctext.proofs.Words.{function_name-token}
use Rattle.bl_ctext.proofs.printer.name.function_name.Goals as goal

pub token-requires : goal.token-requires
token-requires c = function_name-token c.args.word.now c.requires
