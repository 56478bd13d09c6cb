use Rattle.std.proofs.Common.{◌≡◌, ◌++◌, map, drop}
use Rattle.bl_tree.specs.Reduce.{joined}
use Rattle.bl_machine_prevs.specs.Prevs.{prevs_in_expr, prevs_in_part}
use Rattle.bl_emit_tables.proofs.prevs.+expressions.Given as goal

abbrev pub invariant-in_exprs-loop-e : goal.invariant-in_exprs-loop-e
invariant-in_exprs-loop-e l = l.into ++ joined (map prevs_in_expr (drop l.e-index l.list)) ≡ l.initial.into ++ joined (map prevs_in_expr l.list)

abbrev pub invariant-in_path-loop-part : goal.invariant-in_path-loop-part
invariant-in_path-loop-part l = l.into ++ joined (map prevs_in_part (drop l.part-index l.part-items)) ≡ l.initial.into
    ++ joined (map prevs_in_part l.part-items)
