use Rattle.std.proofs.Common.{◌≡◌, ◌++◌, drop}
use Rattle.bl_bound.specs.inner.Capped.{costs_in}
use Rattle.bl_bound.specs.Told.{told_costs}
use Rattle.bl_bound.proofs.CostLemmas.{told_after}
use Rattle.bl_bound.proofs.functions.costs_of.Given as goal

abbrev pub invariant-loop-function : goal.invariant-loop-function
invariant-loop-function l =
    l.costs ++ told_after (costs_in l.known) (drop l.function-index l.functions) ≡ told_costs l.functions
