use Rattle.bl_machine_pass_laws.proofs.OnSame.Same.{numbers_tell}
use Rattle.bl_machine_pass_laws.proofs.same.numbers_tell.Goals as goal

pub returns : goal.returns
returns c = numbers_tell c.spots_differ.ensures
