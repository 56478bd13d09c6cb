-- The numbers that a node must have at least to be above all writers of an access.
use Rattle.std.specs.Prelude.{ℕ, ◌+◌, ◌<◌, ◌≤◌, max, Bool, true, nat_le, List, [], ◌∷◌, Contains, Option, None, Some, slice_get, slice_index, unwrap_or, ⊤}
use Rattle.bl_tree.specs.declared.graph.Edge.{Edge}
use Rattle.bl_graph.specs.declared.accesses.Access.{Access}
use Rattle.bl_graph.specs.declared.accesses.Access.TheVariants.{Read, Write}
use Rattle.bl_cause.specs.Activities.{EachTwo}

-- the low number where an edge begins is less than the high one where it ends
abbrev pub Rise : List Edge → List ℕ → List ℕ → Type 0
Rise edges lows highs = (edge : Edge) → Contains edges edge → slice_index lows edge.from < slice_index highs edge.to

-- the numbers of all nodes of a list are below
abbrev pub Below : List ℕ → List ℕ → ℕ → Type 0
Below lows [] n = ⊤
Below lows (node ∷ rest) n = (slice_index lows node < n) × Below lows rest n

-- the numbers of the nodes are below each number that is at least the limit
abbrev pub IsLimit : List ℕ → List ℕ → ℕ → Type 0
IsLimit lows nodes limit = (n : ℕ) → limit ≤ n → Below lows nodes n

-- each list of writers has its limit
abbrev pub AreLimits : List ℕ → List (List ℕ) → List ℕ → Type 0
AreLimits lows writers limits = EachTwo (IsLimit lows) writers limits

-- the limit of the access at a position, where there is one
abbrev pub limit_at : List ℕ → Option ℕ → ℕ
limit_at limits None = 0
limit_at limits (Some k) = unwrap_or (slice_get limits k) 0

-- the limit of an access, by those of the accesses before it
abbrev pub limit_with : List ℕ → List ℕ → Access → ℕ
limit_with lows limits (Write node before) = max (limit_at limits before) (slice_index lows node + 1)
limit_with lows limits (Read node from) = 0

-- whether the number of a node that reads is at least the limit
abbrev pub is_above : List ℕ → List ℕ → Access → Bool
is_above highs limits (Write node before) = true
is_above highs limits (Read node from) = nat_le (limit_at limits (Some from)) (slice_index highs node)
