use Rattle.std.proofs.Common.{◌≡◌, ◌++◌, drop, map}
use Rattle.bl_machine_transitions.specs.Told.{rule_in}
use Rattle.bl_emit_tables.specs.Told.{all_runs_told}
use Rattle.bl_emit.specs.Kept.{run_in}
use Rattle.bl_emit.proofs.runs.all_of.Given as goal

abbrev pub invariant-loop-rule : goal.invariant-loop-rule
invariant-loop-rule l = map run_in l.runs ++ all_runs_told (map rule_in (drop l.rule-index l.rules)) ≡ all_runs_told (map rule_in l.rules)
