use Rattle.bl_emit_spec_laws.proofs.OnRegisters.Changes.{compiled_simulate}
use Rattle.bl_emit_spec_laws.proofs.registers.changes_simulate.Goals as goal

pub returns : goal.returns
returns c = λ view has scope changes r here agree words apart hold its_own. compiled_simulate view has scope agree words apart changes r here hold its_own
