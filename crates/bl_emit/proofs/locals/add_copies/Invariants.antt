use Rattle.std.proofs.Common.{◌≡◌, ◌++◌, drop, map}
use Rattle.bl_emit.specs.Activities.{copy_told}
use Rattle.bl_emit.proofs.locals.add_copies.Given as goal

abbrev pub invariant-loop-k : goal.invariant-loop-k
invariant-loop-k l = l.locals ++ map (copy_told l.unit) (drop l.k-index l.copied) ≡ l.initial.locals ++ map (copy_told l.unit) l.copied
