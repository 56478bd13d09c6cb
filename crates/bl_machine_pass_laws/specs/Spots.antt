-- The resting places of a body are told apart by the labels of their statements.
use Rattle.std.specs.Prelude.{◌≡◌, ◌⊎◌, List, [], ◌∷◌, ⊤}
use Rattle.bl_tree.specs.declared.tree.Stmt.{Stmt}
use Rattle.bl_graph_nodes.specs.Plain.{Position, plain_block}
use Rattle.bl_machine_pass.specs.SlotLayout.{EndOf, RestOf, Spot, spots_in}

-- the place stands in the list
abbrev pub Has : List Spot → Spot → Type 0
Has [] p = ⊥
Has (x ∷ xs) p = (p ≡ x) ⊎ Has xs p

-- no place stands twice in the list
abbrev pub SpotsAreDistinct : List Spot → Type 0
SpotsAreDistinct [] = ⊤
SpotsAreDistinct (x ∷ xs) = (Has xs x → ⊥) × SpotsAreDistinct xs

-- the position of the statement to which the place belongs
abbrev pub spot_position : Spot → Position
spot_position (RestOf l) = l.position
spot_position (EndOf l k) = l.position

-- no two resting places of a body are one
abbrev pub SpotsDiffer : Type 0
SpotsDiffer = (body : List Stmt) (at : Position) → SpotsAreDistinct (spots_in (plain_block body at))
