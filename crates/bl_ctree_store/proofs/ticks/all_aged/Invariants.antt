use Rattle.std.proofs.Common.{◌≡◌, ◌++◌, map, drop}
use Rattle.bl_ctree.specs.Store.{aged}
use Rattle.bl_ctree_store.specs.Seen.{store_of}
use Rattle.bl_ctree_store.proofs.ticks.all_aged.Given as goal

abbrev pub invariant-loop-frame : goal.invariant-loop-frame
invariant-loop-frame l = store_of l.made ++ map aged (store_of (drop l.frame-index l.frames)) ≡ map aged (store_of l.frames)
