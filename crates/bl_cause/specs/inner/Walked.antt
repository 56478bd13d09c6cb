-- The edges of a walk that was guessed.
use Rattle.std.specs.Prelude.{ℕ, suc, nat_lt, Option, None, Some, if◌then◌else◌}
use Rattle.bl_tree.specs.declared.graph.Edge.{Edge}
use Rattle.bl_graph.specs.declared.accesses.Access.{Access}
use Rattle.bl_graph.specs.declared.accesses.Access.TheVariants.{Write}
use Rattle.bl_cause.specs.declared.guess.Passed.{Passed}

-- the edge alone
abbrev pub edge_of : Passed → Edge
edge_of passed = passed.edge

-- the position, if it is before another
abbrev pub step_back : Option ℕ → ℕ → Option ℕ
step_back None at = None
step_back (Some k) at = if nat_lt k at then Some k else None

-- what a write tells: its node and the write before it
abbrev pub write_of : Option Access → Option (ℕ × Option ℕ)
write_of (Some (Write node before)) = Some (node, before)
write_of _ = None

-- how many positions there are up to this one
abbrev pub up_to : Option ℕ → ℕ
up_to None = 0
up_to (Some k) = suc k
