use Rattle.std.proofs.Common.{take}
use Rattle.bl_cause.proofs.LimitLemmas.{Rising}
use Rattle.bl_cause.proofs.rising.data_rises.Given as goal

abbrev pub invariant-loop-access : goal.invariant-loop-access
invariant-loop-access l = Rising (take l.access-index l.accesses) l.lows l.highs l.limits l.yes
