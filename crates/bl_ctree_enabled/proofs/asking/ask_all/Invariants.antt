use Rattle.std.proofs.Common.{◌≡◌, map, drop}
use Rattle.bl_ctree_store.specs.Seen.{location_of}
use Rattle.bl_ctree_enabled.specs.Listing.{trues}
use Rattle.bl_ctree_enabled.specs.Spots.{spot_of}
use Rattle.bl_ctree_enabled.specs.inner.Asked.{asked_from}
use Rattle.bl_ctree_enabled.proofs.asking.ask_all.Given as goal

abbrev pub invariant-loop-home : goal.invariant-loop-home
invariant-loop-home l =
    (asked_from (map (map location_of) l.all) 0 (map location_of (drop l.home-index l.changed)) (map (map spot_of) l.points) l.free
    ≡ asked_from (map (map location_of) l.all) 0 (map location_of l.changed) (map (map spot_of) l.points) l.initial.free)
    × (l.counts ≡ map trues l.free)
