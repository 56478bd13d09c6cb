use Rattle.std.proofs.Common.{[], ◌∷◌}
use Rattle.bl_simplify_facts.specs.Entries.{valuation}
use Rattle.bl_simplify_steps.specs.inner.Looser.{Looser}
use Rattle.bl_simplify_frames.proofs.reached.told_of.Given as goal

abbrev pub invariant-loop-k : goal.invariant-loop-k
invariant-loop-k l = Looser (valuation l.case ∷ []) (valuation l.told ∷ [])
