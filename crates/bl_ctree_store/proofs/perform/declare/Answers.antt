use Rattle.std.proofs.Common.{ap, Some, ◌∙◌}
use Rattle.bl_ctree.specs.Store.{put}
use Rattle.bl_ctree_store.specs.Own.{now_there}
use Rattle.bl_ctree_store.specs.Seen.{location_of, store_of}
use Rattle.bl_ctree_store.proofs.PerformLemmas.{remembered}
use Rattle.bl_ctree_store.proofs.perform.declare.Goals as goal

pub returns : goal.returns
returns c =
    ap Some (remembered c.args.i c.args.k (put (location_of c.args.at.now) c.args.value (store_of c.args.frames.now.items)) (store_of c.put.new.frames.items)
    (store_of c.remember.new.frames.items) c.in_ok-after.after c.put.ensures
    (c.in_ok-after.ensures ∙ ap (λ frames. now_there (put (location_of c.args.at.now) c.args.value (store_of frames)) c.args.i
    c.args.k) c.deref.ensures.value) c.remember.ensures)
