use Rattle.std.proofs.Common.{◌≡◌, ◌-◌, suc, [], length}
use Rattle.bl_emit_tables.specs.Sizes.{grown}
use Rattle.bl_emit_tables.proofs.words.grow.Given as goal

abbrev pub invariant-loop-alloc : goal.invariant-loop-alloc
invariant-loop-alloc l = grown [] (suc l.at) l.words ≡ grown [] (suc l.at) l.initial.words

abbrev pub decreases-loop-alloc : goal.decreases-loop-alloc
decreases-loop-alloc l = suc l.at - length l.words
