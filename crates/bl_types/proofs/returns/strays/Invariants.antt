use Rattle.std.proofs.Common.{◌≡◌, drop}
use Rattle.bl_types.specs.Failures.{noted}
use Rattle.bl_types.specs.Returns.{strays}
use Rattle.bl_types.proofs.returns.strays.Given as goal

abbrev pub invariant-loop-k : goal.invariant-loop-k
invariant-loop-k l = noted l.notes (strays (drop l.k l.body)) ≡ noted l.initial.notes (strays l.body)
