use Rattle.std.proofs.Common.{◌≡◌, drop}
use Rattle.bl_graph.specs.Marks.{either}
use Rattle.bl_graph.specs.inner.Parts.{leave_mark}
use Rattle.bl_graph.proofs.part.leave_mark.Given as goal

abbrev pub invariant-loop-out : goal.invariant-loop-out
invariant-loop-out l = either l.mark (leave_mark (drop l.out-index l.outs)) ≡ leave_mark l.outs
