use Rattle.std.proofs.Common.{◌≡◌, ◌-◌, length}
use Rattle.bl_ctree.specs.Points.{points}
use Rattle.bl_ctree_run.specs.Running.{setting, state}
use Rattle.bl_walk.specs.inner.Ticks.{StepsTo}
use Rattle.bl_walk.proofs.tick.react.Given as goal

abbrev pub invariant-steps : goal.invariant-steps
invariant-steps g l = record {
  same : setting l.tree ≡ setting l.fn.tree;
  stands : StepsTo (setting l.fn.tree) l.fn.choice (state l.fn.tree) l.choice (state l.tree) l.places;
  left : l.left ≡ length (points (setting l.tree) 0 (state l.tree).control);
}

abbrev pub decreases-steps : goal.decreases-steps
decreases-steps g l = g.most - length l.places
