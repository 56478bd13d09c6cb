use Rattle.std.proofs.Common.{◌≡◌}
use Rattle.bl_eval.specs.Changes.{all_changed}
use Rattle.bl_eval.proofs.steps.make_all.Given as goal

abbrev pub invariant-loop-change : goal.invariant-loop-change
invariant-loop-change l = l.now.items ≡ all_changed l.yielded l.initial.now.items
