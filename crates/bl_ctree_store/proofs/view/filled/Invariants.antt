use Rattle.std.proofs.Common.{◌≡◌, drop}
use Rattle.bl_ctree.specs.Store.{variable_among}
use Rattle.bl_ctree_store.specs.Agree.{filled}
use Rattle.bl_ctree_store.specs.Seen.{setting_in, side, store_of}
use Rattle.bl_ctree_store.proofs.view.filled.Given as goal

abbrev pub invariant-loop-k : goal.invariant-loop-k
invariant-loop-k l =
    filled (variable_among (side l.moment) (setting_in l.w) (store_of l.frames) l.i) (drop l.k-index l.asked) l.made.items
    ≡ filled (variable_among (side l.moment) (setting_in l.w) (store_of l.frames) l.i) l.asked l.fn.values
