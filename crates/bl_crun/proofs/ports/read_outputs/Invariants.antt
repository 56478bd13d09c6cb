use Rattle.std.specs.Prelude.{◌≡◌, drop, length, take}
use Rattle.bl_crun.proofs.ports.read_outputs.Given as goal

abbrev pub invariant-loop-k : goal.invariant-loop-k
invariant-loop-k l = (length l.outs ≡ length l.initial.outs) × (take l.k l.outs ≡ take l.k (drop l.at l.machine.cells))
