-- What plain statements may write before they pause.
use Rattle.std.specs.Prelude.{List, [], ◌++◌, if◌then◌else◌}
use Rattle.bl_tree.specs.declared.static_path.Static.{Static}
use Rattle.bl_graph_nodes.specs.Nodes.{ActAt, EnterAt, arguments_of, is_instant, node_writes}
use Rattle.bl_graph_nodes.specs.Plain.{Act, Again, Await, Block, Bodies, Body, Cobegin, Done, If, Last, Plain, Repeat, Run, Then, Until, When, While}

abbrev mutual
  -- what a statement that begins may write before it pauses. A `run` writes its outputs, and its target where it ends alone
  pub surface_writes : Plain → List Static
  surface_writes (Act l s) = node_writes (ActAt l s)
  surface_writes (Await l at e) = []
  surface_writes (Run l at target a inputs outputs) = node_writes (EnterAt l at (arguments_of target inputs outputs))
  surface_writes (If l at e body other) = surface_writes_in body ++ surface_writes_in other
  surface_writes (Cobegin l at bodies) = surface_writes_in_each bodies
  surface_writes (When l at guard e body) = surface_writes_in body
  surface_writes (Repeat l at body) = surface_writes_in body
  surface_writes (Until l at body e) = surface_writes_in body
  surface_writes (While l at e body) = surface_writes_in body
  surface_writes (Again l at body e) = surface_writes_in body

  -- what a block that begins may write before it pauses
  pub surface_writes_in : Block → List Static
  surface_writes_in Done = []
  surface_writes_in (Then s rest) = surface_writes s ++ (if is_instant s then surface_writes_in rest else [])

  -- what branches that begin may write before they pause
  pub surface_writes_in_each : Bodies → List Static
  surface_writes_in_each Last = []
  surface_writes_in_each (Body weak body rest) = surface_writes_in body ++ surface_writes_in_each rest
