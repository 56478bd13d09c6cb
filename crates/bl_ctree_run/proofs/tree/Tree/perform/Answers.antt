use Rattle.std.proofs.Common.{ap}
use Rattle.bl_ctree_enabled.specs.Spots.{effect_in}
use Rattle.bl_ctree_run.specs.Running.{setting, state}
use Rattle.bl_ctree_run.proofs.TreeLemmas.{acts_told}
use Rattle.bl_ctree_run.proofs.tree.Tree.perform.Goals as goal

pub returns-in-Asks-clause-step : goal.returns-in-Asks-clause-step
returns-in-Asks-clause-step c =
    acts_told (setting c.args.self.now) (state c.args.self.now) (state c.ask.new.self) c.args.point.now _ _ c.ask.result (ap effect_in c.in-Asks.is)
    c.deref.ensures c.ask.ensures.step

pub returns-in-Does-clause-step : goal.returns-in-Does-clause-step
returns-in-Does-clause-step c =
    acts_told (setting c.args.self.now) (state c.args.self.now) (state c.carry.new.self) c.args.point.now _ _ c.carry.result (ap effect_in c.in-Does.is)
    c.deref-in-Does.ensures c.carry.ensures.step
