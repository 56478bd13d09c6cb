use Rattle.bl_ctree_laws_typing.proofs.OnViews.Typed.{views_typed}
use Rattle.bl_ctree_laws_typing.proofs.views.views_are_typed.Goals as goal

pub returns : goal.returns
returns c = views_typed c.instances_have_callers.ensures.callers
