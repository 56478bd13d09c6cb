use Rattle.std.proofs.Common.{◌≡◌, [], drop, take}
use Rattle.bl_conflict.specs.inner.Failures.{least_by, of_alias}
use Rattle.bl_effects.specs.Rules.{outputs_aliased}
use Rattle.bl_conflict.proofs.alias.outputs_aliased.Given as goal

abbrev pub invariant-loop-k : goal.invariant-loop-k
invariant-loop-k l = least_by of_alias l.best (outputs_aliased l.inputs (take l.k l.outputs) (drop l.k l.outputs))
    ≡ least_by of_alias l.initial.best (outputs_aliased l.inputs [] l.outputs)
