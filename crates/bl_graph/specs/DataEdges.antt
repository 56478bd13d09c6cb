-- The data edges of a tick graph: the first node, in one branch, writes what the second, in another, reads.
use Rattle.std.specs.Prelude.{◌≡◌, true, false, ◌⊎◌}
use Rattle.bl_tree.specs.Static.{meets}
use Rattle.bl_graph_nodes.specs.Nodes.{Node, node_reads, node_writes}
use Rattle.bl_graph_nodes.specs.Plain.{Act, Again, Await, Block, Bodies, Body, Cobegin, Done, If, Last, Plain, Repeat, Run, Then, Until, When, While}
use Rattle.bl_graph.specs.Edges.{In, InEach}

-- of two nodes one is of the first kind and the other of the second
abbrev pub Across : (Node → Type 0) → (Node → Type 0) → Node → Node → Type 0
Across F G n m = (F n × G m) ⊎ (G n × F m)

abbrev mutual
  -- the nodes stand in different branches of one `cobegin`, both in their surfaces or both in their depths
  pub Beside : Plain → Node → Node → Type 0
  Beside (Act l s) n m = ⊥
  Beside (Await l at e) n m = ⊥
  Beside (Run l at target a inputs outputs) n m = ⊥
  Beside (If l at e body other) n m = BesideAll body n m ⊎ BesideAll other n m
  Beside (Cobegin l at bodies) n m = BesideEach bodies n m
  Beside (When l at guard e body) n m = BesideAll body n m
  Beside (Repeat l at body) n m = BesideAll body n m
  Beside (Until l at body e) n m = BesideAll body n m
  Beside (While l at e body) n m = BesideAll body n m
  Beside (Again l at body e) n m = BesideAll body n m

  -- two nodes in a block stand in different branches of one `cobegin`, both in their surfaces or both in their depths
  pub BesideAll : Block → Node → Node → Type 0
  BesideAll Done n m = ⊥
  BesideAll (Then s rest) n m = Beside s n m ⊎ BesideAll rest n m

  -- two nodes stand beside each other in one branch, or in two of the branches, both in surfaces or both in depths
  pub BesideEach : Bodies → Node → Node → Type 0
  BesideEach Last n m = ⊥
  BesideEach (Body weak body rest) n m = BesideAll body n m
      ⊎ Across (In false body) (InEach false rest) n m
      ⊎ Across (In true body) (InEach true rest) n m
      ⊎ BesideEach rest n m

-- the first writes a static path that overlaps one that the second reads
abbrev pub Touches : Node → Node → Type 0
Touches n m = meets (node_writes n) (node_reads m) ≡ true

-- the data edges of a unit's body
abbrev pub DataEdge : Block → Node → Node → Type 0
DataEdge body n m = BesideAll body n m × Touches n m
