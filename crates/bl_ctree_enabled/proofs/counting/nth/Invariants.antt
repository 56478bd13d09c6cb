use Rattle.std.proofs.Common.{◌≡◌, map, drop}
use Rattle.std.specs.Prelude.{slice_get}
use Rattle.bl_ctree_enabled.specs.Listing.{flagged}
use Rattle.bl_ctree_enabled.specs.Spots.{spot_of}
use Rattle.bl_ctree_enabled.proofs.counting.nth.Given as goal

abbrev pub invariant-loop-k : goal.invariant-loop-k
invariant-loop-k l =
    slice_get (flagged (drop l.k l.flags) (drop l.k (map spot_of l.points))) l.left ≡ slice_get (flagged l.flags (map spot_of l.points)) l.n
