use Rattle.std.proofs.Common.{◌≡◌, map, drop}
use Rattle.std.specs.List.{list_any}
use Rattle.bl_ctree_store.specs.Seen.{location_of}
use Rattle.bl_ctree_run.specs.inner.Writers.{is_met}
use Rattle.bl_ctree_run.proofs.enabled.is_free.Given as goal

abbrev pub invariant-loop-at : goal.invariant-loop-at
invariant-loop-at l = list_any (is_met l.writers l.k) (map location_of (drop l.at-index l.point.reads))
    ≡ list_any (is_met l.writers l.k) (map location_of l.point.reads)
