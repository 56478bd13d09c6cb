use Rattle.std.proofs.Common.{refl}
use Rattle.bl_parse_syntax.proofs.Expecting.{expects_program}
use Rattle.bl_parse.proofs.program.read.Goals as goal

pub items-requires : goal.items-requires
items-requires c = record { program = expects_program _ c.requires.program }

pub returns : goal.returns
returns c = record { items = c.in_ok-items.ensures; bytes = refl }
