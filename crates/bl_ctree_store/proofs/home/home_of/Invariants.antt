use Rattle.std.proofs.Common.{◌≡◌, ◌-◌}
use Rattle.bl_ctree.specs.Store.{home, home_within}
use Rattle.bl_ctree_store.specs.Seen.{location_of, setting_in}
use Rattle.bl_ctree_store.proofs.home.home_of.Given as goal

abbrev pub invariant-loop : goal.invariant-loop
invariant-loop l = home_within (setting_in l.w) (l.depth - l.counter) (location_of l.at)
    ≡ home (setting_in l.w) (record { instance = l.i; path = record { root = l.root; fields = l.fn.fields } })
