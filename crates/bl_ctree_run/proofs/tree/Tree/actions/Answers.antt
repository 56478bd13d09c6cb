use Rattle.std.proofs.Common.{ap, ◌∙◌, map}
use Rattle.bl_ctree.specs.Points.{points}
use Rattle.bl_ctree_run.specs.Running.{setting, state}
use Rattle.bl_ctree_enabled.specs.Spots.{spot_of}
use Rattle.bl_ctree_run.proofs.TreeLemmas.{told_actions}
use Rattle.bl_ctree_run.proofs.tree.Tree.actions.Goals as goal

pub returns : goal.returns
returns c =
    told_actions (setting c.args.self.now) c.deref.result.now (points (setting c.args.self.now) 0 (state c.args.self.now).control) c.told.result
    (ap (map spot_of) c.deref.ensures ∙ c.in_ok-found.ensures) c.told.ensures
