use Rattle.std.proofs.Common.{◌≡◌, map, nat_eq}
use Rattle.bl_machine.specs.Blocks.{up_to}
use Rattle.bl_emit_tables.proofs.needed.one_set.Given as goal

abbrev pub invariant-loop-k : goal.invariant-loop-k
invariant-loop-k l = l.tests ≡ map (λ k. nat_eq k l.at) (up_to l.k)
