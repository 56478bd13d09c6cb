use Rattle.std.proofs.Common.{◌≡◌, ℕ, ◌<◌, true, map}
use Rattle.std.specs.Prelude.{Some, slice_get}
use Rattle.bl_ctree.specs.Store.{Location}
use Rattle.bl_ctree_store.specs.Seen.{location_of}
use Rattle.bl_ctree_enabled.specs.inner.Tables.{Grows, is_noted}
use Rattle.bl_ctree_enabled.proofs.table.Table.note_all.Given as goal

abbrev pub invariant-loop-at : goal.invariant-loop-at
invariant-loop-at l =
    ((m : ℕ) (at : Location) → m < l.at-index → slice_get (map location_of l.homes) m ≡ Some at → is_noted l.self l.k at ≡ true)
    × Grows l.initial.self l.self
