-- Trees that are left of statements of a body, no two of which have a node in common.
use Rattle.std.specs.Prelude.{◌≡◌, ◌⊎◌, List, [], ◌∷◌, Contains, ⊤}
use Rattle.bl_graph_nodes.specs.Nodes.{Node, label_of, nodes_in, nodes_of}
use Rattle.bl_graph_nodes.specs.Plain.{Block, Bodies, Body as BodyOf, Done, Last, Plain, Then}
use Rattle.bl_ctree_laws.specs.Trees.{Tree, Trees, Nil, Wait, Test, Idle, Do, Seq, Par, Guard, Run, beside, no_tree}
use Rattle.bl_ctree_laws_traces.specs.Progress.FitsGraph.{fork_stmt, watch_stmt}
use Rattle.bl_machine_pass.specs.SlotLayout.{RestOf, Spot, spots_in, spots_of}
use Rattle.bl_machine_pass.specs.Numbered.{sort}

-- ---- nodes that differ

-- the nodes have one label and one sort
pub record Same (n m : Node) : Type 0 where
  pub label : label_of n ≡ label_of m
  pub sorted : sort n ≡ sort m

-- the element is one of these
abbrev pub Member : {X : Type 0} → List X → X → Type 0
Member [] x = ⊥
Member (y ∷ ys) x = (x ≡ y) ⊎ Member ys x

-- no two of the nodes have one label and one sort
abbrev pub NodesAreDistinct : List Node → Type 0
NodesAreDistinct [] = ⊤
NodesAreDistinct (n ∷ nodes) = ((m : Node) → Member nodes m → Same n m → ⊥) × NodesAreDistinct nodes

-- ---- what is left of a body

-- Own Rests Part s: the nodes of the statement differ and are of the part, and its resting places are among those
pub record Own (Rests : Spot → Type 0) (Part : Node → Type 0) (s : Plain) : Type 0 where
  pub nodes : (n : Node) → Member (nodes_of s) n → Part n
  pub differ : NodesAreDistinct (nodes_of s)
  pub spots : (p : Spot) → Member (spots_of s) p → Rests p

-- OwnAll Rests Part body: the nodes of each statement of the block differ and are of the part, and its resting places are among those
abbrev pub OwnAll : (Spot → Type 0) → (Node → Type 0) → Block → Type 0
OwnAll Rests Part Done = ⊤
OwnAll Rests Part (Then s rest) = Own Rests Part s × OwnAll Rests Part rest

abbrev mutual
  -- Stems Rests Part c: the tree is the residual of statements of the part with these resting places. Branches and bodies of `when`s in it are residuals of
  -- theirs
  pub Stems : (Spot → Type 0) → (Node → Type 0) → Tree → Type 0
  Stems Rests Part Nil = ⊤
  Stems Rests Part (Wait s) = Rests (RestOf s.label)
  Stems Rests Part (Test s) = Rests (RestOf s.label)
  Stems Rests Part (Idle body) = OwnAll Rests Part body
  Stems Rests Part (Do s) = Own Rests Part s
  Stems Rests Part (Seq c Done) = ⊥
  Stems Rests Part (Seq c (Then s rest)) = Stems Rests Part c × OwnAll Rests Part (Then s rest)
  Stems Rests Part (Par s stood branches) = Own Rests Part (fork_stmt s) × StemEach Rests s.bodies branches
  Stems Rests Part (Guard s phase stood c) = Own Rests Part (watch_stmt s) × Stems Rests (Member (nodes_in s.body)) c
  Stems Rests Part (Run s callee phase stood c) = Rests (RestOf s.label)

  -- each tree is the residual of its body
  pub StemEach : (Spot → Type 0) → Bodies → Trees → Type 0
  StemEach Rests Last no_tree = ⊤
  StemEach Rests Last (beside weak c branches) = ⊥
  StemEach Rests (BodyOf weak body rest) no_tree = ⊥
  StemEach Rests (BodyOf weak body rest) (beside weak' c branches) = Stems Rests (Member (nodes_in body)) c × StemEach Rests rest branches

-- the tree is left of the body of an activity
abbrev pub Stemmed : Block → Tree → Type 0
Stemmed body c = Stems (Contains (spots_in body)) (Contains (nodes_in body)) c
