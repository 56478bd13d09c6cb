use Rattle.std.proofs.Common.{◌≡◌, map}
use Rattle.bl_ctree_store.specs.Seen.{location_of}
use Rattle.bl_ctree_enabled.specs.Listing.{trues}
use Rattle.bl_ctree_enabled.specs.Spots.{spot_of}
use Rattle.bl_ctree_enabled.proofs.AskLemmas.{Reached}
use Rattle.bl_ctree_enabled.proofs.asking.ask_readers.Given as goal

abbrev pub invariant-loop-key : goal.invariant-loop-key
invariant-loop-key l =
    Reached (map (map location_of) l.all) (location_of l.changed) (map (map spot_of) l.points) l.initial.free l.free l.key-iterator
    × (l.counts ≡ map trues l.free)
