use Rattle.std.proofs.Common.{◌≡◌, ◌++◌, take}
use Rattle.bl_graph.proofs.part.append_outs.Given as goal

abbrev pub invariant-loop-out : goal.invariant-loop-out
invariant-loop-out l = l.into ≡ l.initial.into ++ take l.out-index l.from
