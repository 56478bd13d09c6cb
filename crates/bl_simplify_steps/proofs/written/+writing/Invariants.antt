use Rattle.std.proofs.Common.{◌≡◌, ◌++◌, drop}
use Rattle.bl_simplify_laws.specs.Written.{written_in}
use Rattle.bl_simplify_steps.proofs.written.+writing.Given as goal

abbrev pub invariant-add_written-loop-stmt : goal.invariant-add_written-loop-stmt
invariant-add_written-loop-stmt l = l.spots ++ written_in (drop l.stmt-index l.block) ≡ l.fn.spots ++ written_in l.block
