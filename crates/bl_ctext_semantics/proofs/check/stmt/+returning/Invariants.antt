use Rattle.std.proofs.Common.{◌≡◌, drop, map}
use Rattle.bl_ctext_semantics.specs.Faults.{last_or, last_returns, surely_returns}
use Rattle.bl_ctext_semantics.proofs.check.stmt.+returning.Given as goal

abbrev pub invariant-block_returns-loop-stmt : goal.invariant-block_returns-loop-stmt
invariant-block_returns-loop-stmt l = last_or l.returns (map surely_returns (drop l.stmt-index l.block)) ≡ last_returns (map surely_returns l.block)
