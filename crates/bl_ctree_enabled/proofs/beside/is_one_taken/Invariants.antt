use Rattle.std.proofs.Common.{◌≡◌, map, drop}
use Rattle.std.specs.List.{list_any}
use Rattle.bl_ctree_store.specs.Seen.{location_of}
use Rattle.bl_ctree_enabled.specs.inner.Asked.{is_taken}
use Rattle.bl_ctree_enabled.proofs.beside.is_one_taken.Given as goal

abbrev pub invariant-loop-at : goal.invariant-loop-at
invariant-loop-at l =
    list_any (is_taken (map (map location_of) l.all) l.k) (map location_of (drop l.at-index l.reads))
    ≡ list_any (is_taken (map (map location_of) l.all) l.k) (map location_of l.reads)
