use Rattle.bl_peel.proofs.Keeping.{peeled_keeps}
use Rattle.bl_peel.proofs.laws.peeled_bodies_have_the_effects.Goals as goal

pub returns : goal.returns
returns c = peeled_keeps
