use Rattle.std.proofs.Common.{◌≡◌, map, length}
use Rattle.std.specs.List.{list_any}
use Rattle.bl_ctree_store.specs.Seen.{location_of}
use Rattle.bl_ctree_enabled.specs.inner.Asked.{is_hit}
use Rattle.bl_ctree_enabled.specs.inner.Tables.{near}
use Rattle.bl_ctree_enabled.proofs.beside.is_near_taken.Given as goal

abbrev pub invariant-loop-key : goal.invariant-loop-key
invariant-loop-key l =
    list_any (is_hit (map (map location_of) l.all) l.k (location_of l.at)) l.key-iterator
    ≡ list_any (is_hit (map (map location_of) l.all) l.k (location_of l.at)) (near l.writers (location_of l.at) (length l.all))
