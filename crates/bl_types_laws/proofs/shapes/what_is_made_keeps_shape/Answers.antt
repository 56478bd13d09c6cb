use Rattle.bl_types_laws.proofs.Made.{made_apart, made_shallow}
use Rattle.bl_types_laws.proofs.shapes.what_is_made_keeps_shape.Goals as goal

pub returns-clause-shallow : goal.returns-clause-shallow
returns-clause-shallow c = made_shallow

pub returns-clause-apart : goal.returns-clause-apart
returns-clause-apart c = made_apart
