use Rattle.std.proofs.Common.{◌≡◌, true, drop}
use Rattle.bl_simplify_laws.specs.Rules.{AfterBlock}
use Rattle.bl_simplify_facts.specs.Entries.{facts_of}
use Rattle.bl_simplify_steps.specs.Entry.{known_from}
use Rattle.bl_simplify_frames.proofs.reached.are_left.Given as goal

abbrev pub invariant-loop-case : goal.invariant-loop-case
invariant-loop-case l =
    l.all ≡ true → AfterBlock (known_from (facts_of (drop l.case-index l.reached)) l.function) l.function.body (facts_of l.reached) →
    AfterBlock (known_from (facts_of l.reached) l.function) l.function.body (facts_of l.reached)
