use Rattle.std.proofs.Common.{drop, map}
use Rattle.bl_tree.specs.Reduce.{all_of, greatest}
use Rattle.bl_ctext.specs.Spellable.{spells_stmt}
use Rattle.bl_ctext.specs.inner.Depths.{stmt_depth}
use Rattle.bl_ctext_spelled.proofs.Depths.{Towards}
use Rattle.bl_ctext_spelled.proofs.stmts.+spelling.Given as goal

abbrev pub invariant-of_block-loop-stmt : goal.invariant-of_block-loop-stmt
invariant-of_block-loop-stmt l =
    Towards l.depth (all_of (map spells_stmt (drop l.stmt-index l.block))) (greatest (map stmt_depth (drop l.stmt-index l.block)))
    (all_of (map spells_stmt l.block)) (greatest (map stmt_depth l.block))
