use Rattle.bl_peel_laws_typing.proofs.Returning.{peeled_returns}
use Rattle.bl_peel_laws_typing.proofs.bodies.peeled_activities_return.Goals as goal

pub returns : goal.returns
returns c = peeled_returns
