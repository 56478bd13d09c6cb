use Rattle.std.proofs.Common.{◌≡◌, take}
use Rattle.bl_simplify_facts.proofs.copy.+copying.Given as goal

abbrev pub invariant-call-loop-part : goal.invariant-call-loop-part
invariant-call-loop-part l = l.args ≡ take l.part-index l.part-items

abbrev pub invariant-place-loop-part : goal.invariant-place-loop-part
invariant-place-loop-part l = l.steps ≡ take l.part-index l.part-items
