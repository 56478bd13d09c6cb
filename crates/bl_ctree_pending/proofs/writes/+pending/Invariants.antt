use Rattle.std.proofs.Common.{◌≡◌, ◌++◌, ◌&&◌, ◌||◌, true, false, map, drop}
use Rattle.bl_ctree.specs.Nodes.{branches_of, seen_of}
use Rattle.bl_ctree.specs.Pending.{may_join}
use Rattle.bl_ctree_pending.specs.Writes.{all_write_paths}
use Rattle.bl_ctree_pending.proofs.writes.+pending.Given as goal

abbrev pub invariant-all_pending-loop-branch : goal.invariant-all_pending-loop-branch
invariant-all_pending-loop-branch l = record {
  strong : (l.strong && may_join true (branches_of (map seen_of (drop l.branch-index l.branches)))) ≡ may_join true (branches_of (map seen_of l.branches));
  some : (l.some || may_join false (branches_of (map seen_of (drop l.branch-index l.branches)))) ≡ may_join false (branches_of (map seen_of l.branches));
  writes : l.into ++ all_write_paths (branches_of (map seen_of (drop l.branch-index l.branches))) ≡ l.initial.into
      ++ all_write_paths (branches_of (map seen_of l.branches));
}
