use Rattle.std.proofs.Common.{◌≡◌, ◌++◌, map, filter, take, drop}
use Rattle.bl_ctree.specs.Nodes.{branches_of, seen_of}
use Rattle.bl_ctree.specs.Points.{branch_points}
use Rattle.bl_ctree_store.specs.Seen.{setting_in}
use Rattle.bl_ctree_enabled.proofs.BranchLemmas.{is_free, spot_from}
use Rattle.bl_ctree_enabled.specs.Spots.{homes_seen, spot_below, spot_of}
use Rattle.bl_ctree_run.proofs.points.+points.Given as goal

abbrev pub invariant-branch_points-loop-k : goal.invariant-branch_points-loop-k
invariant-branch_points-loop-k l =
    map spot_of l.into
    ++ filter (is_free (take l.k (map (homes_seen (setting_in l.w) l.i) (map seen_of l.branches))))
    (map (spot_from (setting_in l.w) l.path l.k) (branch_points (setting_in l.w) l.i (branches_of (drop l.k (map seen_of l.branches)))))
    ≡ map spot_of l.initial.into ++ map (spot_below (setting_in l.w) l.path) (branch_points (setting_in l.w) l.i (branches_of (map seen_of l.branches)))
