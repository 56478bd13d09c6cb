use Rattle.std.proofs.Common.{◌≡◌, ◌+◌, ◌≤◌, drop}
use Rattle.bl_ctree_enabled.specs.Listing.{trues}
use Rattle.bl_ctree_enabled.proofs.counting.trues.Given as goal

abbrev pub invariant-loop-k : goal.invariant-loop-k
invariant-loop-k l = (l.count + trues (drop l.k l.flags) ≡ trues l.flags) × (l.count ≤ l.k)
