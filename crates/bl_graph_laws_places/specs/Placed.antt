-- Plain statements and nodes whose places are mapped.
use Rattle.std.specs.Prelude.{List, map, option_map}
use Rattle.bl_tree.specs.declared.graph.Node.{Node as GraphNode}
use Rattle.bl_tree.specs.declared.place.Place.{Place}
use Rattle.bl_tree_laws_places.specs.Placed.{placed_expr, placed_path, placed_stmt}
use Rattle.bl_graph_nodes.specs.Nodes.{ActAt, Arguments, CheckAt, DepthEndAt, DepthJoinAt, EnterAt, ForkAt, HeadAt, Node, PauseAt, ResumeAt, StartAt}
use Rattle.bl_graph_nodes.specs.Nodes.{SurfaceEndAt, SurfaceJoinAt, TestAt}
use Rattle.bl_graph_nodes.specs.Plain.{Act, Again, Await, Block, Bodies, Body, Cobegin, Done, If, Last, Plain, Repeat, Run, Then, Until, When, While}

-- ---- plain statements

abbrev mutual
  -- a plain statement with all places mapped
  pub placed_plain : (Place → Place) → Plain → Plain
  placed_plain f (Act l s) = Act l (placed_stmt f s)
  placed_plain f (Await l at e) = Await l (f at) (placed_expr f e)
  placed_plain f (Run l at target a inputs outputs) =
      Run l (f at) (option_map (placed_path f) target) a (map (placed_expr f) inputs) (map (placed_path f) outputs)
  placed_plain f (If l at e body other) = If l (f at) (placed_expr f e) (placed_block f body) (placed_block f other)
  placed_plain f (Cobegin l at bodies) = Cobegin l (f at) (placed_bodies f bodies)
  placed_plain f (When l at guard e body) = When l (f at) guard (placed_expr f e) (placed_block f body)
  placed_plain f (Repeat l at body) = Repeat l (f at) (placed_block f body)
  placed_plain f (Until l at body e) = Until l (f at) (placed_block f body) (placed_expr f e)
  placed_plain f (While l at e body) = While l (f at) (placed_expr f e) (placed_block f body)
  placed_plain f (Again l at body e) = Again l (f at) (placed_block f body) (placed_expr f e)

  -- a block with all places mapped
  pub placed_block : (Place → Place) → Block → Block
  placed_block f Done = Done
  placed_block f (Then s rest) = Then (placed_plain f s) (placed_block f rest)

  -- branches with all places mapped
  pub placed_bodies : (Place → Place) → Bodies → Bodies
  placed_bodies f Last = Last
  placed_bodies f (Body weak body rest) = Body weak (placed_block f body) (placed_bodies f rest)

-- ---- nodes

-- the arguments of a `run` with all places mapped
abbrev pub placed_arguments : (Place → Place) → Arguments → Arguments
placed_arguments f arguments = record {
  target = option_map (placed_path f) arguments.target;
  inputs = map (placed_expr f) arguments.inputs;
  outputs = map (placed_path f) arguments.outputs;
}

-- a node with all places mapped
abbrev pub placed_node : (Place → Place) → Node → Node
placed_node f (ActAt l s) = ActAt l (placed_stmt f s)
placed_node f (TestAt l at e) = TestAt l (f at) (placed_expr f e)
placed_node f (PauseAt l at) = PauseAt l (f at)
placed_node f (EnterAt l at arguments) = EnterAt l (f at) (placed_arguments f arguments)
placed_node f (ResumeAt l at arguments) = ResumeAt l (f at) (placed_arguments f arguments)
placed_node f (HeadAt l at) = HeadAt l (f at)
placed_node f (StartAt l at) = StartAt l (f at)
placed_node f (CheckAt l at e) = CheckAt l (f at) (placed_expr f e)
placed_node f (SurfaceEndAt l at) = SurfaceEndAt l (f at)
placed_node f (DepthEndAt l at) = DepthEndAt l (f at)
placed_node f (ForkAt l at) = ForkAt l (f at)
placed_node f (SurfaceJoinAt l at) = SurfaceJoinAt l (f at)
placed_node f (DepthJoinAt l at) = DepthJoinAt l (f at)

-- a node of a graph at the mapped place
abbrev pub placed_graph_node : (Place → Place) → GraphNode → GraphNode
placed_graph_node f n = record { place = f n.place; kind = n.kind }

-- the nodes of a graph at the mapped places
abbrev pub placed_nodes : (Place → Place) → List GraphNode → List GraphNode
placed_nodes f nodes = map (placed_graph_node f) nodes
