use Rattle.bl_emit_spec_laws.proofs.OnRegisters.Intervals.{guards_show}
use Rattle.bl_emit_spec_laws.proofs.registers.guards_show.Goals as goal

pub returns : goal.returns
returns c = λ view has scope before n condition r here words hold within left its_own.
    guards_show scope here view has r hold within words before n condition left its_own
