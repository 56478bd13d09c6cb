use Rattle.std.proofs.Common.{◌≡◌, ◌++◌, drop, map}
use Rattle.bl_machine_transitions.specs.Told.{rule_in}
use Rattle.bl_emit_tables.specs.Told.{flags_told}
use Rattle.bl_emit_tables.specs.Words.{kept_word}
use Rattle.bl_emit.proofs.registers.add_flags.Given as goal

abbrev pub invariant-loop-block : goal.invariant-loop-block
invariant-loop-block l =
    l.locals ++ flags_told (kept_word l.words) (map rule_in l.rules) (drop l.block-index l.blocks)
    ≡ l.initial.locals ++ flags_told (kept_word l.words) (map rule_in l.rules) l.blocks
