use Rattle.bl_machine_pass_laws.proofs.OnNumbers.Lingering.{counters_linger}
use Rattle.bl_machine_pass_laws.proofs.numbers.counters_linger.Goals as goal

pub returns : goal.returns
returns c = counters_linger
