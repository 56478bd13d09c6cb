use Rattle.std.proofs.Common.{◌≡◌, drop, map, max}
use Rattle.bl_tree.specs.Reduce.{joined}
use Rattle.bl_ctext_semantics.specs.Calls.{calls_in_block, calls_in_stmt, most}
use Rattle.bl_ctext_semantics.specs.inner.Maps.{text_at}
use Rattle.bl_ctext_semantics.proofs.check.calls.+calling_statements.Given as goal

abbrev pub invariant-most_in_block-loop-stmt : goal.invariant-most_in_block-loop-stmt
invariant-most_in_block-loop-stmt l =
    max l.greatest (most (text_at l.numbers) (joined (map calls_in_stmt (drop l.stmt-index l.block)))) ≡ most (text_at l.numbers) (calls_in_block l.block)
