use Rattle.bl_emit_spec_laws.proofs.OnRegisters.Apart.{keep_apart}
use Rattle.bl_emit_spec_laws.proofs.registers.registers_apart.Goals as goal

pub returns : goal.returns
returns c = λ site has scope few frame older from_frame from_over. keep_apart site has scope few frame older from_frame from_over
