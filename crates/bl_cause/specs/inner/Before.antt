-- Numbers of nodes that show that no closed walk begins with a data edge at an earlier place.
use Rattle.std.specs.Prelude.{◌≡◌, ℕ, ◌+◌, ◌≤◌, Bool, true, false, List, ◌∷◌, slice_index}
use Rattle.bl_tree.specs.declared.graph.Edge.{Edge}
use Rattle.bl_tree.specs.declared.graph.Node.{Node}
use Rattle.bl_tree.specs.declared.place.Place.{Place}
use Rattle.bl_tree.specs.Rules.{is_before}
use Rattle.bl_cause.specs.declared.numbers.Numbers.{Numbers}
use Rattle.bl_cause.specs.Fails.{place_at}
use Rattle.bl_cause.specs.Walks.{ClosedWalk}

-- no closed walk begins with a data edge from a node before the place
abbrev pub NoneBefore : List Node → List Edge → Place → Type 0
NoneBefore nodes edges at =
    (edge : Edge) (rest : List Edge) → edge.by_data ≡ true → ClosedWalk edges (edge ∷ rest) → is_before (place_at nodes edge.from) at ≡ false

-- the high number of a node is at most one more than its low ones, and no more than that for data edges where the node is before the place
pub record Fits (early : Bool) (numbers : Numbers) (node : ℕ) : Type 0 where
  pub low : slice_index numbers.highs node ≤ slice_index numbers.lows node + 1
  pub data_low : slice_index numbers.highs node ≤ slice_index numbers.data_lows node + 1
  pub early_low : early ≡ true → slice_index numbers.highs node ≤ slice_index numbers.data_lows node
