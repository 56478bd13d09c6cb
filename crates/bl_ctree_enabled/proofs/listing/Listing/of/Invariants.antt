use Rattle.std.proofs.Common.{◌≡◌, ◌++◌, map, drop}
use Rattle.bl_ctree_store.specs.Seen.{location_of}
use Rattle.bl_ctree_enabled.specs.Listing.{flags_from, trues}
use Rattle.bl_ctree_enabled.specs.Spots.{spot_of}
use Rattle.bl_ctree_enabled.proofs.listing.Listing.of.Given as goal

abbrev pub invariant-loop-k : goal.invariant-loop-k
invariant-loop-k l =
    (l.free ++ flags_from (map (map location_of) l.fn.homes) l.k (map (map spot_of) (drop l.k l.fn.points))
    ≡ flags_from (map (map location_of) l.fn.homes) 0 (map (map spot_of) l.fn.points))
    × (l.counts ≡ map trues l.free)
