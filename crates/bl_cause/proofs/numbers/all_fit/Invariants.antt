use Rattle.std.proofs.Common.{◌≡◌, ◌<◌, true, ℕ}
use Rattle.bl_tree.specs.Rules.{is_before}
use Rattle.bl_cause.specs.Fails.{place_at}
use Rattle.bl_cause.specs.inner.Before.{Fits}
use Rattle.bl_cause.proofs.numbers.all_fit.Given as goal

abbrev pub invariant-loop-k : goal.invariant-loop-k
invariant-loop-k l = l.yes ≡ true → (k : ℕ) → k < l.k → Fits (is_before (place_at l.nodes k) l.at) l.numbers k
