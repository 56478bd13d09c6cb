use Rattle.std.proofs.Common.{◌≡◌, ◌++◌, map, drop}
use Rattle.bl_ctree.specs.Nodes.{seen_of}
use Rattle.bl_ctree_enabled.specs.Listing.{spots_from}
use Rattle.bl_ctree_enabled.specs.Spots.{spot_of}
use Rattle.bl_ctree_store.specs.Seen.{setting_in}
use Rattle.bl_ctree_run.proofs.listed.all_points.Given as goal

abbrev pub invariant-loop-k : goal.invariant-loop-k
invariant-loop-k l =
    map (map spot_of) l.made ++ spots_from (setting_in l.w) l.i l.k (map seen_of (drop l.k l.branches))
    ≡ spots_from (setting_in l.w) l.i 0 (map seen_of l.branches)
