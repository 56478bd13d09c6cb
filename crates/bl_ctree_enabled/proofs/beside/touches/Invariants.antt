use Rattle.std.proofs.Common.{◌≡◌, ◌∷◌, [], map, drop}
use Rattle.bl_ctree_store.specs.Seen.{location_of}
use Rattle.bl_ctree_enabled.specs.Listing.{touches}
use Rattle.bl_ctree_enabled.proofs.beside.touches.Given as goal

abbrev pub invariant-loop-at : goal.invariant-loop-at
invariant-loop-at l =
    touches (location_of l.home ∷ []) (map location_of (drop l.at-index l.reads)) ≡ touches (location_of l.home ∷ []) (map location_of l.reads)
