use Rattle.std.proofs.Common.{◌≡◌, ◌<◌, List, [], length}
use Rattle.std.specs.Prelude.{All}
use Rattle.bl_tree.specs.declared.graph.Edge.{Edge}
use Rattle.bl_cause.specs.inner.Lists.{Rows, edges_into}
use Rattle.bl_cause.specs.inner.Numbers.{FallBefore, NeverFall}
use Rattle.bl_cause.proofs.NumberLemmas.{weight}
use Rattle.bl_cause.proofs.numbering.lower.Given as goal

abbrev pub invariant-loop-node : goal.invariant-loop-node
invariant-loop-node l = record {
  length_stays : length l.numbers ≡ length l.fn.numbers;
  nodes : All (λ node. node < length l.fn.numbers) l.lowered.items;
  fall : (edges : List Edge) → Rows (edges_into edges) (length l.fn.numbers) l.rows → NeverFall edges l.fn.numbers →
      FallBefore edges l.numbers l.lowered.items [];
}

abbrev pub decreases-loop-node : goal.decreases-loop-node
decreases-loop-node l = weight (record { numbers = l.numbers; nodes = l.lowered.items })
