use Rattle.std.proofs.Common.{◌≡◌, ◌++◌, map, drop}
use Rattle.bl_ctree.specs.Store.{frame_at_first}
use Rattle.bl_ctree_store.specs.Seen.{setting_in, store_of}
use Rattle.bl_ctree_store.proofs.ticks.first_frames.Given as goal

abbrev pub invariant-loop-instance : goal.invariant-loop-instance
invariant-loop-instance l =
    store_of l.made ++ map (frame_at_first (setting_in l.w)) (drop l.instance-index l.instance-items) ≡ map (frame_at_first (setting_in l.w)) l.instance-items
