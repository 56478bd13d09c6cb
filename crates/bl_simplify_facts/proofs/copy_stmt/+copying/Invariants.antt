use Rattle.std.proofs.Common.{◌≡◌, take}
use Rattle.bl_simplify_facts.proofs.copy_stmt.+copying.Given as goal

abbrev pub invariant-block-loop-part : goal.invariant-block-loop-part
invariant-block-loop-part l = l.copy ≡ take l.part-index l.it
