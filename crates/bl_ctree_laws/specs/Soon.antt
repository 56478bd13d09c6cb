-- What can be written before the next pause, by a test of each static path, is what the surface's list of writes says.
use Rattle.std.specs.Prelude.{Bool, ◌≡◌}
use Rattle.std.specs.List.{list_any}
use Rattle.bl_tree.specs.declared.static_path.Static.{Static}
use Rattle.bl_graph_nodes.specs.Plain.{Block, Bodies, Plain}
use Rattle.bl_graph_nodes.specs.Writes.{surface_writes, surface_writes_in, surface_writes_in_each}
use Rattle.bl_ctree_laws.specs.Pending.{soon, soon_in, soon_in_each}

-- a statement, a block or branches that begin can write a static path that passes a test exactly where their surface's list has one
pub record SoonIsSurface : Type 0 where
  pub statements : (test : Static → Bool) (s : Plain) → soon test s ≡ list_any test (surface_writes s)
  pub blocks : (test : Static → Bool) (body : Block) → soon_in test body ≡ list_any test (surface_writes_in body)
  pub branches : (test : Static → Bool) (bodies : Bodies) → soon_in_each test bodies ≡ list_any test (surface_writes_in_each bodies)
