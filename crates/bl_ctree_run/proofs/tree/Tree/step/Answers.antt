use Rattle.std.proofs.Common.{ap, Some, ◌∙◌, sym}
use Rattle.std.specs.Prelude.{Ok}
use Rattle.bl_ctree.specs.Points.{points}
use Rattle.bl_ctree_enabled.specs.Spots.{spot_of}
use Rattle.bl_ctree_run.specs.Running.{setting, state}
use Rattle.bl_ctree_run.proofs.TreeLemmas.{acts_nth, told_nth}
use Rattle.bl_ctree_run.proofs.tree.Tree.step.Goals as goal

pub returns-clause-step : goal.returns-clause-step
returns-clause-step c =
    acts_nth (setting c.args.self.now) (state c.args.self.now) (state c.perform.new.self) c.args.n c.in_ok-point.point (Ok c.in_ok-did.did)
    c.in_ok-point.ensures c.in_ok-did.ensures.step

pub returns-clause-action : goal.returns-clause-action
returns-clause-action c =
    told_nth (setting c.args.self.now) (points (setting c.args.self.now) 0 (state c.args.self.now).control) c.args.n (spot_of c.in_ok-point.point)
    c.in_ok-point.ensures
    ∙ ap Some (sym c.action_at.ensures)
