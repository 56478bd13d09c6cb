use Rattle.bl_emit_spec_laws_nodes.proofs.OnViews.Leaving.{acts_leave_so}
use Rattle.bl_emit_spec_laws_nodes.proofs.views.acts_leave.Goals as goal

pub returns : goal.returns
returns c = acts_leave_so c.instances_nest.ensures c.declarations_keep_others.ensures c.puts_commute.ensures.others
