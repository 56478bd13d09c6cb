use Rattle.bl_peel_laws_typing.proofs.Nesting.{peeled_is_shallow}
use Rattle.bl_peel_laws_typing.proofs.Parting.{peeled_is_apart}
use Rattle.bl_peel_laws_typing.proofs.bodies.peeled_bodies_keep_shape.Goals as goal

pub returns-clause-shallow : goal.returns-clause-shallow
returns-clause-shallow c = peeled_is_shallow

pub returns-clause-apart : goal.returns-clause-apart
returns-clause-apart c = peeled_is_apart
