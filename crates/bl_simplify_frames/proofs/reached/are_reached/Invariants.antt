use Rattle.std.proofs.Common.{◌≡◌, true, drop}
use Rattle.bl_simplify_facts.specs.Entries.{facts_of}
use Rattle.bl_simplify_steps.specs.inner.Looser.{Looser}
use Rattle.bl_simplify_frames.proofs.reached.are_reached.Given as goal

abbrev pub invariant-loop-exit : goal.invariant-loop-exit
invariant-loop-exit l = l.all ≡ true → Looser (facts_of (drop l.exit-index l.exits)) (facts_of l.reached) → Looser (facts_of l.exits) (facts_of l.reached)
