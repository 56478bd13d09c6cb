use Rattle.std.proofs.Common.{◌≡◌, ◌≤◌, ◌-◌, map, drop, length}
use Rattle.bl_ctree_store.specs.Seen.{location_of}
use Rattle.bl_ctree_enabled.proofs.change.common_back.Given as goal

abbrev pub invariant-loop-k : goal.invariant-loop-k
invariant-loop-k l =
    (drop (length l.a - l.k) (map location_of l.a) ≡ drop (length l.b - l.k) (map location_of l.b)) × (l.k ≤ length l.b)
