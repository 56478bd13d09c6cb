use Rattle.std.proofs.Common.{◌≡◌, ◌++◌, drop, map}
use Rattle.bl_tree.specs.Reduce.{joined}
use Rattle.bl_emit_tables.specs.Told.{mark_told}
use Rattle.bl_emit_tables.specs.Words.{kept_word}
use Rattle.bl_emit.proofs.registers.add_rule_marks.Given as goal

abbrev pub invariant-loop-change : goal.invariant-loop-change
invariant-loop-change l =
    l.locals ++ joined (map (mark_told (kept_word l.words)) (drop l.change-index l.on_true))
    ≡ l.initial.locals ++ joined (map (mark_told (kept_word l.words)) l.on_true)
