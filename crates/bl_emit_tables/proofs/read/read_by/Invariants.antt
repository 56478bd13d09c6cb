use Rattle.std.proofs.Common.{◌≡◌, ℕ, false, ◌||◌, drop, map, slice_get, unwrap_or}
use Rattle.bl_machine_transitions.specs.Told.{rule_in}
use Rattle.bl_emit_tables.specs.Told.{read_told}
use Rattle.bl_emit_tables.proofs.read.read_by.Given as goal

abbrev pub invariant-loop-rule : goal.invariant-loop-rule
invariant-loop-rule l = (k : ℕ) → read_told (map rule_in (drop l.rule-index l.rules)) k || unwrap_or (slice_get l.tests k) false
    ≡ read_told (map rule_in l.rules) k
