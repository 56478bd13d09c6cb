use Rattle.bl_types.proofs.GatherLemmas.{vars_of-next}
use Rattle.bl_types.proofs.unit.vars_of.Goals as goal

pub loop-var-preserved : goal.loop-var-preserved
loop-var-preserved c =
    vars_of-next c.loop-var.yielded c.in-Some.var c.loop-var.made c.keep.new.list c.var_of.result c.var_of.ensures c.loop-var.invariant c.in_ok-keep.ensures
