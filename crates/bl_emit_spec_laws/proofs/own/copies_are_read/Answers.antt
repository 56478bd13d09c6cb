use Rattle.std.proofs.Common.{refl}
use Rattle.bl_emit_spec_laws.proofs.own.copies_are_read.Goals as goal

pub returns : goal.returns
returns c a k = refl
