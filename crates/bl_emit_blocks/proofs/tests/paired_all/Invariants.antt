use Rattle.std.proofs.Common.{◌≡◌}
use Rattle.bl_emit_blocks.specs.Pairs.{no_pairs, paired_all}
use Rattle.bl_emit_blocks.proofs.tests.paired_all.Given as goal

abbrev pub invariant-loop-test : goal.invariant-loop-test
invariant-loop-test l = l.pairs ≡ paired_all l.op no_pairs l.yielded
