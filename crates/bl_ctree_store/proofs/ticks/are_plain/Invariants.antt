use Rattle.std.proofs.Common.{◌≡◌, drop}
use Rattle.bl_ctree_store.specs.Ageing.{are_plain}
use Rattle.bl_ctree_store.specs.Seen.{store_of}
use Rattle.bl_ctree_store.proofs.ticks.are_plain.Given as goal

abbrev pub invariant-loop-frame : goal.invariant-loop-frame
invariant-loop-frame l = are_plain (store_of (drop l.frame-index l.frames)) ≡ are_plain (store_of l.frames)
