use Rattle.std.proofs.Common.{◌≡◌}
use Rattle.bl_ctree_store.specs.Seen.{put_all, store_of}
use Rattle.bl_ctree_store.proofs.writing.put_all.Given as goal

abbrev pub invariant-loop-each : goal.invariant-loop-each
invariant-loop-each l = store_of l.frames.items ≡ put_all l.yielded (store_of l.initial.frames.items)
