use Rattle.std.proofs.Common.{◌≤◌, List, get_or, reverse}
use Rattle.bl_tree.specs.declared.graph.Edge.{Edge}
use Rattle.bl_cause.specs.declared.way_back.Step.{Step}
use Rattle.bl_cause.specs.Walks.{EdgeWalk}
use Rattle.bl_cause.specs.inner.Steps.{Tree}
use Rattle.bl_cause.proofs.way_back.walk_to.Given as goal

abbrev pub invariant-loop-at : goal.invariant-loop-at
invariant-loop-at l = record {
  inside : l.at ≤ l.last;
  leads : (edges : List Edge) (first : Edge) (d : Step) → Tree edges first l.steps →
      EdgeWalk edges (get_or l.steps l.at d).edge.to (reverse l.walk) (get_or l.steps l.last d).edge.to;
}

abbrev pub decreases-loop-at : goal.decreases-loop-at
decreases-loop-at l = l.at
