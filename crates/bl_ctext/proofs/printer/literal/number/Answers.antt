use Rattle.std.proofs.Common.{rules}
use Rattle.bl_ctext.proofs.Words.{decimal-token}
use Rattle.bl_ctext.proofs.printer.literal.number.Goals as goal

pub token-requires : goal.token-requires
token-requires c = search (rules, decimal-token)
