use Rattle.std.proofs.Common.{◌≡◌, ℕ, ◌<◌, List, map}
use Rattle.std.specs.Prelude.{Some, slice_get}
use Rattle.bl_ctree.specs.Store.{Location}
use Rattle.bl_ctree_store.specs.Seen.{location_of}
use Rattle.bl_ctree_enabled.specs.inner.Tables.{Noted}
use Rattle.bl_ctree_enabled.proofs.tables.writers_of.Given as goal

abbrev pub invariant-loop-k : goal.invariant-loop-k
invariant-loop-k l =
    (j : ℕ) (homes : List Location) → j < l.k → slice_get (map (map location_of) l.homes) j ≡ Some homes → Noted l.made j homes
