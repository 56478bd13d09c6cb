use Rattle.std.proofs.Common.{◌≡◌, ◌++◌, drop}
use Rattle.bl_simplify_laws.specs.Steps.{without_spots}
use Rattle.bl_simplify_facts.specs.Entries.{valuation}
use Rattle.bl_simplify_steps.proofs.forget.add_without.Given as goal

abbrev pub invariant-loop-entry : goal.invariant-loop-entry
invariant-loop-entry l =
    valuation l.left ++ without_spots l.gone (valuation (drop l.entry-index l.case))
    ≡ valuation l.fn.left ++ without_spots l.gone (valuation l.case)
