use Rattle.std.proofs.Common.{◌≡◌, map, take}
use Rattle.bl_ctree_store.specs.Seen.{location_of}
use Rattle.bl_ctree_enabled.specs.Listing.{flags_of}
use Rattle.bl_ctree_enabled.specs.Spots.{spot_of}
use Rattle.bl_ctree_enabled.proofs.beside.flags.Given as goal

abbrev pub invariant-loop-point : goal.invariant-loop-point
invariant-loop-point l = l.made ≡ flags_of (map (map location_of) l.all) l.k (map spot_of (take l.point-index l.points))
