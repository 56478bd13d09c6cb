use Rattle.std.proofs.Common.{◌≡◌, take}
use Rattle.bl_peel.proofs.copies.+copies.Given as goal

abbrev pub invariant-exprs-loop-e : goal.invariant-exprs-loop-e
invariant-exprs-loop-e l = l.copies ≡ take l.e-index l.all

abbrev pub invariant-parts-loop-one : goal.invariant-parts-loop-one
invariant-parts-loop-one l = l.copies ≡ take l.one-index l.all
