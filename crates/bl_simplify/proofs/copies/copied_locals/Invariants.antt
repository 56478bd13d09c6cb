use Rattle.std.proofs.Common.{◌≡◌, take}
use Rattle.bl_simplify.proofs.copies.copied_locals.Given as goal

abbrev pub invariant-loop-local : goal.invariant-loop-local
invariant-loop-local l = l.copy ≡ take l.local-index l.locals
