use Rattle.std.proofs.Common.{◌≡◌, drop}
use Rattle.bl_ctree.specs.Store.{Store, put_written}
use Rattle.bl_ctree_store.specs.Seen.{put_all, setting_in}
use Rattle.bl_ctree_store.proofs.writing.puts.Given as goal

abbrev pub invariant-loop-path : goal.invariant-loop-path
invariant-loop-path l =
    (store : Store) → put_written (setting_in l.w) l.i l.variables (drop l.path-index l.paths) (put_all l.made store)
    ≡ put_written (setting_in l.w) l.i l.variables l.paths store
