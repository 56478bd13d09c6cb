use Rattle.bl_eval.proofs.PartLemmas.{change_made}
use Rattle.bl_eval.proofs.steps.make_all.Goals as goal

pub loop-change-preserved : goal.loop-change-preserved
loop-change-preserved c =
    change_made c.loop-change.now.items c.put.new.values.items c.args.now.now.items c.loop-change.yielded c.in-Some.change c.deref.result.now
    c.loop-change.invariant c.deref.ensures c.put.ensures
