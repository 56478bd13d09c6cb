use Rattle.bl_machine_pass_laws.proofs.OnSame.Same.{counters_tell}
use Rattle.bl_machine_pass_laws.proofs.same.counters_tell.Goals as goal

pub returns : goal.returns
returns c = counters_tell c.spots_differ.ensures
