use Rattle.std.proofs.Common.{◌≡◌, ◌∷◌, [], ◌++◌, map, take, drop}
use Rattle.bl_ctree_store.specs.Seen.{location_of}
use Rattle.bl_ctree_enabled.specs.Spots.{spot_of}
use Rattle.bl_ctree_enabled.specs.inner.Asked.{asked_flags}
use Rattle.bl_ctree_enabled.proofs.asking.ask_points.Given as goal

abbrev pub invariant-loop-m : goal.invariant-loop-m
invariant-loop-m l =
    l.free
    ≡ take l.m (asked_flags (map (map location_of) l.all) l.j (location_of l.changed ∷ []) (map spot_of l.points) l.initial.free)
    ++ drop l.m l.initial.free
