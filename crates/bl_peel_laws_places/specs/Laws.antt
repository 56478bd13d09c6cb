-- Bodies with first turns, where places are mapped.
use Rattle.std.specs.Prelude.{◌≡◌, List, map}
use Rattle.bl_tree.specs.declared.place.Place.{Place}
use Rattle.bl_tree.specs.declared.tree.Stmt.{Stmt}
use Rattle.bl_tree_laws_places.specs.Placed.{placed_stmt}
use Rattle.bl_peel.specs.Count.{statement_count}
use Rattle.bl_peel.specs.Peeled.{peeled}

-- a body with mapped places has the first turns of the body, with mapped places
abbrev pub PeeledBodiesMove : Type 0
PeeledBodiesMove = (f : Place → Place) (body : List Stmt) → peeled (map (placed_stmt f) body) ≡ map (placed_stmt f) (peeled body)

-- a body has as many statements with mapped places as without
abbrev pub CountsStay : Type 0
CountsStay = (f : Place → Place) (body : List Stmt) → statement_count (map (placed_stmt f) body) ≡ statement_count body
