use Rattle.bl_ctree_store.specs.Seen.{store_of}
use Rattle.bl_ctree_store.proofs.PerformLemmas.{put_all_more}
use Rattle.bl_ctree_store.proofs.writing.put_all.Goals as goal

pub loop-each-preserved : goal.loop-each-preserved
loop-each-preserved c =
    put_all_more c.loop-each.yielded c.in-Some.each (store_of c.args.frames.now.items) (store_of c.loop-each.frames.items)
    (store_of c.put.new.frames.items) c.loop-each.invariant c.put.ensures
