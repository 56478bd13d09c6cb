use Rattle.std.proofs.Common.{◌≡◌, map, drop}
use Rattle.std.specs.List.{list_any}
use Rattle.bl_ctree_store.specs.Seen.{location_of}
use Rattle.bl_ctree_run.specs.inner.Writers.{is_beside, write_of}
use Rattle.bl_ctree_run.proofs.enabled.is_taken.Given as goal

abbrev pub invariant-loop-write : goal.invariant-loop-write
invariant-loop-write l = list_any (is_beside l.k (location_of l.at)) (map write_of (drop l.write-index l.writes))
    ≡ list_any (is_beside l.k (location_of l.at)) (map write_of l.writes)
