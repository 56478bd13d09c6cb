use Rattle.bl_save_laws.proofs.StateLaws.{state-goes_on, states-join}
use Rattle.bl_save_laws.proofs.state_goes_on.Goals as goal

pub returns-clause-trace : goal.returns-clause-trace
returns-clause-trace c file = state-goes_on file (c.one_memory.ensures file)

pub returns-clause-state : goal.returns-clause-state
returns-clause-state c file = states-join file (c.one_memory.ensures file)
