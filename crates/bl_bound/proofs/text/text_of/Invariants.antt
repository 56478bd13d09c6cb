use Rattle.std.proofs.Common.{◌≡◌, ◌++◌, drop}
use Rattle.bl_bound.specs.Text.{bound_text}
use Rattle.bl_bound.proofs.TextLemmas.{lines}
use Rattle.bl_bound.proofs.text.text_of.Given as goal

abbrev pub invariant-loop-k : goal.invariant-loop-k
invariant-loop-k l = l.text.items ++ lines (drop l.k l.functions) (drop l.k l.costs) ≡ bound_text l.functions
