use Rattle.std.proofs.Common.{◌≡◌, ◌++◌, drop}
use Rattle.bl_graph.specs.inner.Parts.{numbered}
use Rattle.bl_graph.proofs.part.numbered.Given as goal

abbrev pub invariant-loop-flow : goal.invariant-loop-flow
invariant-loop-flow l = l.outs ++ numbered l.number (drop l.flow-index l.flows) ≡ numbered l.first l.flows
