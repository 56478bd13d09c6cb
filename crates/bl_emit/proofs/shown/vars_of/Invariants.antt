use Rattle.std.proofs.Common.{◌≡◌, take}
use Rattle.bl_emit.proofs.shown.vars_of.Given as goal

abbrev pub invariant-loop-var : goal.invariant-loop-var
invariant-loop-var l = l.copies ≡ take l.var-index l.vars
