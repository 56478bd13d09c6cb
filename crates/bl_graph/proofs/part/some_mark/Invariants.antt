use Rattle.std.proofs.Common.{◌≡◌, drop}
use Rattle.bl_graph.specs.Marks.{either}
use Rattle.bl_graph.specs.inner.Parts.{some_mark}
use Rattle.bl_graph.proofs.part.some_mark.Given as goal

abbrev pub invariant-loop-out : goal.invariant-loop-out
invariant-loop-out l = either l.mark (some_mark (drop l.out-index l.outs)) ≡ some_mark l.outs
