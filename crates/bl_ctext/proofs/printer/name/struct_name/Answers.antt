use Rattle.bl_ctext.proofs.Words.{struct_name-token}
use Rattle.bl_ctext.proofs.printer.name.struct_name.Goals as goal

pub token-requires : goal.token-requires
token-requires c = struct_name-token c.args.word.now c.requires
