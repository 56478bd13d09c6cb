-- Passes turn by turn, where numbers of nodes are computed.
use Rattle.std.proofs.Common.{◌≡◌, ◌≤◌, ◌⊎◌, ℕ, suc, true, List, ◌++◌, ◌∙◌}
use Rattle.std.specs.Prelude.{◌<◌, [], nat_le}
use Rattle.bl_tree.proofs.Basics.{at_most_from}
use Rattle.bl_graph_nodes.specs.Nodes.{Node}
use Rattle.bl_ctree.specs.Instances.{Setting}
use Rattle.bl_ctree_laws.specs.Trees.{Tree, is_settled}
use Rattle.bl_machine_laws.specs.Numbers.Turns as turns
use Rattle.bl_machine_laws.specs.Numbers.Turns.{AnsweredDeed, Passes, Turns}

module _ {w : Setting} {rank : ℕ → Node → ℕ} {i : ℕ} where
  -- nothing is left to do
  pub ends : {k : ℕ} {c : Tree} → is_settled c ≡ true → Passes w rank i k c [] c
  ends is = turns.rests is

  -- a node has its turn, whose number is at least this one
  pub then : {k : ℕ} {c : Tree} {done : List AnsweredDeed} {n : Node} {c' : Tree} {others : List AnsweredDeed} {c'' : Tree} →
      Turns w rank i c done n c' → nat_le k (rank i n) ≡ true → Passes w rank i (suc (rank i n)) c' others c'' →
      Passes w rank i k c (done ++ others) c''
  then turn low rest = turns.goes (at_most_from _ _ low) turn rest
