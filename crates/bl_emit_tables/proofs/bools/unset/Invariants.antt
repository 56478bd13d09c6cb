use Rattle.std.proofs.Common.{◌≡◌, false, map}
use Rattle.bl_machine.specs.Blocks.{up_to}
use Rattle.bl_emit_tables.proofs.bools.unset.Given as goal

abbrev pub invariant-loop-turn : goal.invariant-loop-turn
invariant-loop-turn l = l.tests ≡ map (λ k. false) (up_to l.turn)
