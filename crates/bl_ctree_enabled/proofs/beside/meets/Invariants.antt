use Rattle.std.proofs.Common.{◌≡◌, map, drop}
use Rattle.std.specs.List.{list_any}
use Rattle.bl_ctree.specs.Store.{overlap}
use Rattle.bl_ctree_store.specs.Seen.{location_of}
use Rattle.bl_ctree_enabled.proofs.beside.meets.Given as goal

abbrev pub invariant-loop-home : goal.invariant-loop-home
invariant-loop-home l =
    list_any (overlap (location_of l.at)) (map location_of (drop l.home-index l.homes)) ≡ list_any (overlap (location_of l.at)) (map location_of l.homes)
