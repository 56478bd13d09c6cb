use Rattle.std.proofs.Common.{◌≡◌, ◌++◌}
use Rattle.bl_gen.specs.Text.{declarations}
use Rattle.bl_gen.proofs.append.append_declarations.Given as goal

abbrev pub invariant-variables : goal.invariant-variables
invariant-variables l = l.text.items ≡ l.initial.text.items ++ declarations l.before
