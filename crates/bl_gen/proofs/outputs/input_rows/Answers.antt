use Rattle.std.proofs.Common.{◌≡◌, ◌∙◌, ap, arith}
use Rattle.bl_gen.specs.Outputs.{input_rows, rows_to}
use Rattle.bl_gen.proofs.outputs.input_rows.Goals as goal

pub returns : goal.returns
unfolding input_rows
returns c = let all : c.ticks.before ≡ 100 = omega arith in c.ticks.invariant ∙ ap rows_to all
