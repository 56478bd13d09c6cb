use Rattle.std.proofs.Common.{◌≡◌, ◌++◌, map, drop}
use Rattle.bl_ctree.specs.Nodes.{seen_of}
use Rattle.bl_ctree_enabled.specs.Spots.{homes_seen}
use Rattle.bl_ctree_store.specs.Seen.{location_of, setting_in}
use Rattle.bl_ctree_run.proofs.listed.all_homes.Given as goal

abbrev pub invariant-loop-branch : goal.invariant-loop-branch
invariant-loop-branch l =
    map (map location_of) l.made ++ map (homes_seen (setting_in l.w) l.i) (map seen_of (drop l.branch-index l.branches))
    ≡ map (homes_seen (setting_in l.w) l.i) (map seen_of l.branches)
