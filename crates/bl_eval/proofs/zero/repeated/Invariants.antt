use Rattle.std.proofs.Common.{◌≡◌, replicate}
use Rattle.bl_eval.proofs.zero.repeated.Given as goal

abbrev pub invariant-loop : goal.invariant-loop
invariant-loop l = l.elements ≡ replicate l.counter l.element
