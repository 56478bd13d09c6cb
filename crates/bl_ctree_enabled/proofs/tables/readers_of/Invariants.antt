use Rattle.std.proofs.Common.{◌≡◌, ℕ, ◌<◌, List, map}
use Rattle.std.specs.Prelude.{Some, slice_get}
use Rattle.bl_ctree.specs.Store.{Location}
use Rattle.bl_ctree_enabled.specs.Spots.{spot_of}
use Rattle.bl_ctree_enabled.specs.inner.Tables.{Noted, reads_in}
use Rattle.bl_ctree_enabled.proofs.tables.readers_of.Given as goal

abbrev pub invariant-loop-k : goal.invariant-loop-k
invariant-loop-k l =
    (j : ℕ) (reads : List Location) → j < l.k → slice_get (map reads_in (map (map spot_of) l.points)) j ≡ Some reads → Noted l.made j reads
