use Rattle.std.proofs.Common.{◌≡◌, ◌++◌, map, drop}
use Rattle.bl_ctree.specs.Store.{homes}
use Rattle.bl_ctree_store.specs.Seen.{location_of, setting_in}
use Rattle.bl_ctree_store.proofs.home.append_homes.Given as goal

abbrev pub invariant-loop-path : goal.invariant-loop-path
invariant-loop-path l =
    map location_of l.into ++ homes (setting_in l.w) l.i (drop l.path-index l.paths) ≡ map location_of l.initial.into ++ homes (setting_in l.w) l.i l.paths
