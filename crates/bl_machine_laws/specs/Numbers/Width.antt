-- How many counters an activity takes.
use Rattle.std.specs.Prelude.{◌≡◌, ◌<◌, ℕ, List, All, Contains}
use Rattle.bl_tree.specs.declared.tree.Stmt.{Stmt}
use Rattle.bl_effects.specs.Surface.{width}
use Rattle.bl_graph_nodes.specs.Plain.{plain_body}
use Rattle.bl_machine.specs.Layout.{counters_in, width_in}

-- the body uses exactly the counters below its width, where it is laid out from counter 0 on
pub record TakesItsWidth (body : List Stmt) : Type 0 where
  pub many : width_in (plain_body body) ≡ width body
  pub below : All (λ counter. counter < width body) (counters_in (plain_body body) 0)
  pub each : (counter : ℕ) → counter < width body → Contains (counters_in (plain_body body) 0) counter
