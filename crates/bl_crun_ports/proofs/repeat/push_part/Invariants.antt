use Rattle.std.proofs.Common.{◌≡◌, ◌++◌, drop, take}
use Rattle.bl_crun_ports.proofs.repeat.push_part.Given as goal

abbrev pub invariant-loop-k : goal.invariant-loop-k
invariant-loop-k l = l.kinds.items ≡ l.initial.kinds.items ++ take l.k (drop l.part.start l.initial.kinds.items)
