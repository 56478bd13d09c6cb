use Rattle.std.proofs.Common.{◌≡◌, drop}
use Rattle.bl_ctree_run.specs.Running.{setting, state}
use Rattle.bl_walk.specs.inner.Ticks.{WalkBetweenTicks}
use Rattle.bl_walk.proofs.Walking.{Onward}
use Rattle.bl_walk.proofs.run.walk.Given as goal

abbrev pub invariant-rows : goal.invariant-rows
invariant-rows g l = record {
  same : setting l.tree ≡ setting l.initial.tree;
  between : WalkBetweenTicks (setting l.initial.tree) (state l.tree);
  onward :
      Onward (setting l.initial.tree) l.initial.choice l.rows (state l.initial.tree) l.initial.steps l.choice (drop l.row-index l.rows)
      (state l.tree) l.outs l.steps;
}

abbrev pub ghost-tick : goal.ghost-tick
ghost-tick g a = g.most
