use Rattle.std.proofs.Common.{◌≡◌, false, filter, slice_get, unwrap_or}
use Rattle.bl_machine.specs.Blocks.{up_to}
use Rattle.bl_emit.proofs.chosen.chosen.Given as goal

abbrev pub invariant-loop-k : goal.invariant-loop-k
invariant-loop-k l = l.positions ≡ filter (λ k. unwrap_or (slice_get l.tests k) false) (up_to l.k)
