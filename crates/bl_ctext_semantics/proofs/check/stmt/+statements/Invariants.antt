use Rattle.std.proofs.Common.{◌≡◌, drop, map}
use Rattle.bl_ctext_semantics.specs.inner.Checked.{context_of}
use Rattle.bl_ctext_semantics.specs.Faults.{block_faults, earlier_of, faults_in_stmt, first_place}
use Rattle.bl_ctext_semantics.proofs.check.stmt.+statements.Given as goal

abbrev pub invariant-judge_block-loop-stmt : goal.invariant-judge_block-loop-stmt
invariant-judge_block-loop-stmt l =
    earlier_of l.first (first_place (block_faults (map faults_in_stmt (drop l.stmt-index l.block)) (context_of l.context) l.looped))
    ≡ first_place (block_faults (map faults_in_stmt l.block) (context_of l.context) l.looped)
