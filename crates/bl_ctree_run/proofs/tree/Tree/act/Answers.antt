use Rattle.bl_ctree_run.specs.Running.{setting, state}
use Rattle.bl_ctree_run.proofs.TreeLemmas.{acts_nth}
use Rattle.bl_ctree_run.proofs.tree.Tree.act.Goals as goal

pub returns-clause-step : goal.returns-clause-step
returns-clause-step c =
    acts_nth (setting c.args.self.now) (state c.args.self.now) (state c.perform.new.self) c.args.n c.in_ok-point.point c.perform.result
    c.in_ok-point.ensures c.perform.ensures.step
