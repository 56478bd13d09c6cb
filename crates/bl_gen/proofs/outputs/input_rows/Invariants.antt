use Rattle.std.proofs.Common.{◌≡◌}
use Rattle.bl_gen.specs.Outputs.{rows_to}
use Rattle.bl_gen.proofs.outputs.input_rows.Given as goal

abbrev pub invariant-ticks : goal.invariant-ticks
invariant-ticks l = l.rows ≡ rows_to l.before
