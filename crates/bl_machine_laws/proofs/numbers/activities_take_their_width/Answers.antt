use Rattle.bl_machine_laws.proofs.OnNumbers.Width.{takes_its_width}
use Rattle.bl_machine_laws.proofs.numbers.activities_take_their_width.Goals as goal

pub returns : goal.returns
returns c body = takes_its_width c.plain_statements.ensures body
