use Rattle.std.proofs.Common.{◌≡◌, ◌++◌, map, drop}
use Rattle.bl_ctree.specs.Nodes.{seen_of}
use Rattle.bl_ctree.specs.Store.{Location}
use Rattle.bl_ctree_store.specs.Seen.{setting_in}
use Rattle.bl_ctree_enabled.specs.Spots.{homes_seen}
use Rattle.bl_ctree_run.specs.inner.Writers.{all_writes, of_variable, writes_from, writes_kept}
use Rattle.bl_ctree_run.proofs.writers.Writers.of.Given as goal

abbrev pub invariant-loop-k : goal.invariant-loop-k
invariant-loop-k l =
    (at : Location)
    → writes_kept l.writers at ++ of_variable at (writes_from l.k (map (homes_seen (setting_in l.w) l.i) (drop l.k (map seen_of l.branches))))
    ≡ of_variable at (all_writes (map (homes_seen (setting_in l.w) l.i) (map seen_of l.branches)))
