use Rattle.std.proofs.Common.{◌≡◌, ℕ, ◌<◌, map}
use Rattle.std.specs.Prelude.{Some, slice_get}
use Rattle.bl_ctree_enabled.specs.Spots.{Spot, spot_of}
use Rattle.bl_ctree_enabled.specs.inner.Tables.{Grows, Noted}
use Rattle.bl_ctree_enabled.proofs.table.Table.note_reads.Given as goal

abbrev pub invariant-loop-point : goal.invariant-loop-point
invariant-loop-point l =
    ((m : ℕ) (spot : Spot) → m < l.point-index → slice_get (map spot_of l.points) m ≡ Some spot → Noted l.self l.k spot.reads)
    × Grows l.initial.self l.self
