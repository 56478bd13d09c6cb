use Rattle.std.proofs.Common.{◌≡◌, ◌++◌, drop, map}
use Rattle.bl_machine_transitions.specs.Told.{rule_in}
use Rattle.bl_emit_tables.specs.Told.{marks_told}
use Rattle.bl_emit_tables.specs.Words.{kept_word}
use Rattle.bl_emit.proofs.registers.add_marks.Given as goal

abbrev pub invariant-loop-rule : goal.invariant-loop-rule
invariant-loop-rule l =
    l.locals ++ marks_told (kept_word l.words) (map rule_in (drop l.rule-index l.rules))
    ≡ l.initial.locals ++ marks_told (kept_word l.words) (map rule_in l.rules)
