use Rattle.bl_machine.proofs.SlotLemmas.{Numbering}
use Rattle.bl_machine.proofs.slots.numbered.Given as goal

abbrev pub invariant-loop-counter : goal.invariant-loop-counter
invariant-loop-counter l = Numbering l.width l.counters l.counter-index l.last.items l.slots
