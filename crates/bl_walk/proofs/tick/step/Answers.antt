use Rattle.std.specs.Prelude.{Ok}
use Rattle.bl_ctree_run.specs.Running.{setting, state}
use Rattle.bl_walk.proofs.Ticking.{took_by}
use Rattle.bl_walk.proofs.tick.step.Goals as goal

pub returns-clause-took : goal.returns-clause-took
returns-clause-took c =
    took_by (setting c.args.tree.now) c.next.result (state c.args.tree.now) (state c.step.new.self) c.args.places.now c.push.new.self c.args.count
    c.in_ok-done.done.action c.index-at.result c.in-Ok.number (Ok c.in_ok-done.done.did) c.requires.count c.index-at.ensures.pick c.index-at.ensures.within
    c.in-Ok.ensures.1 c.in_ok-done.ensures.action c.in_ok-push.ensures.ok c.in_ok-done.ensures.step
