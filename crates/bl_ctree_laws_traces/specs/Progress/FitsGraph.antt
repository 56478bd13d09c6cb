-- Trees that stand in the tick graph of their unit.
use Rattle.std.specs.Prelude.{◌≡◌, ℕ, Bool, true, false, Some, ⊤}
use Rattle.bl_tree.specs.declared.tree.Unit.{Unit as UnitDef}
use Rattle.bl_graph_nodes.specs.Nodes.{CheckAt, Node, TestAt, are_instant, entry, is_instant}
use Rattle.bl_graph_nodes.specs.Plain.{Block, Bodies, Plain, Body as BodyOf, Cobegin, Done, Last, Run as RunOf, Then, When, plain_body}
use Rattle.bl_graph_nodes.specs.Steps.{end_node, join_node, run_node}
use Rattle.bl_graph.specs.Edges.{InEach}
use Rattle.bl_ctree.specs.Control.{Check, Body}
use Rattle.bl_ctree.specs.Instances.{Setting, callee_of, unit_at}
use Rattle.bl_ctree_laws.specs.Pending.{may_end, may_join}
use Rattle.bl_ctree_laws.specs.Trees.{Call, Fork, Pause, Tree, Trees, Watch, Nil, Wait, Test, Idle, Do, Seq, Par, Guard, Run, beside, has_strong, is_nil}
use Rattle.bl_ctree_laws.specs.Trees.{no_tree}
use Rattle.bl_ctree_laws_traces.specs.Progress.Places.{IsSubgraph, AreSubgraphs, Place, ahead_of, in_branch, guarded, later_on, whole}

-- the statements of a `cobegin`, a `when` and a `run` of a tree
abbrev pub fork_stmt : Fork → Plain
fork_stmt s = Cobegin s.label s.place s.bodies

-- the `when` statement that a Guard is left of
abbrev pub watch_stmt : Watch → Plain
watch_stmt s = When s.label s.place s.guard s.test s.body

-- the `run` statement that a Run is left of
abbrev pub call_stmt : Call → Plain
call_stmt s = RunOf s.label s.place s.arguments.target s.unit s.arguments.inputs s.arguments.outputs

-- the node at which an `await` is tested
abbrev pub test_of : Pause → Node
test_of s = TestAt s.label s.place s.test

-- the node of the condition of a `when`
abbrev pub check_of : Watch → Node
check_of s = CheckAt s.label s.place s.test

-- the end at a node may be reached; at once only where the statement is instant
abbrev pub MayReachEnd : Bool → Bool → Node → Place → Type 0
MayReachEnd stood instant n g = (stood ≡ false → instant ≡ true) × g.now n

-- the nodes of the branches' surface or depth may act at the place, and those of their depth later
pub record MayActAt (stood : Bool) (bodies : Bodies) (g : Place) : Type 0 where
  pub now : (n : Node) → InEach stood bodies n → g.now n
  pub deep : (n : Node) → InEach true bodies n → g.deep n

-- a Par fits the graph, its branches apart
pub record ForkFitsGraph (w : Setting) (i : ℕ) (s : Fork) (stood ends : Bool) (g : Place) : Type 0 where
  pub fits : IsSubgraph w i (fork_stmt s) g
  pub holds : MayActAt stood s.bodies g
  pub joins : ends ≡ true → MayReachEnd stood (is_instant (fork_stmt s)) (join_node stood s.label s.place) g

-- what a Guard has beside its body: which may end, or is still to be checked
pub record WatchFitsGraph (w : Setting) (i : ℕ) (s : Watch) (stood ends : Bool) (g : Place) : Type 0 where
  pub fits : IsSubgraph w i (watch_stmt s) g
  pub closes : ends ≡ true → MayReachEnd stood (are_instant s.body) (end_node stood s.label s.place) g

-- what a Guard has beside its body when its condition is still to be tested: it has stood, and its body hasn't ended
pub record CheckFitsGraph (w : Setting) (i : ℕ) (s : Watch) (stood nil : Bool) (g : Place) : Type 0 where
  pub fits : IsSubgraph w i (watch_stmt s) g
  pub has_stood : stood ≡ true
  pub checks : g.now (check_of s)
  pub unended : nil ≡ false

-- a Run fits the graph: its place begins the callee, an instance of the unit; one that ends or copies has stood
pub record CallFitsGraph (w : Setting) (i : ℕ) (s : Call) (callee : ℕ) (unit : UnitDef) (stood ends : Bool) (g : Place) : Type 0 where
  pub fits : IsSubgraph w i (call_stmt s) g
  pub called : callee_of w i s.place ≡ Some callee
  pub is : unit_at w callee ≡ Some unit
  pub now : g.now (run_node stood s.label s.place s.arguments)
  pub stays : ends ≡ true → stood ≡ true

-- what a Run has beside its body when its inputs are still to be copied: it has stood, and its body hasn't ended
pub record CopyFitsGraph (w : Setting) (i : ℕ) (s : Call) (callee : ℕ) (unit : UnitDef) (stood nil : Bool) (g : Place) : Type 0 where
  pub fits : IsSubgraph w i (call_stmt s) g
  pub called : callee_of w i s.place ≡ Some callee
  pub is : unit_at w callee ≡ Some unit
  pub now : g.now (run_node stood s.label s.place s.arguments)
  pub has_stood : stood ≡ true
  pub unended : nil ≡ false

-- a tree before a block in which something stands
pub record SeqFitsGraph (w : Setting) (i : ℕ) (rest : Block) (nil : Bool) (g : Place) : Type 0 where
  pub fits : AreSubgraphs w i rest g
  pub unended : nil ≡ false

abbrev mutual
  -- the tree of an instance fits the graph at a place: its statements' graphs are subgraphs, and its due nodes may act there
  pub FitsGraph : Setting → ℕ → Tree → Place → Type 0
  FitsGraph w i Nil g = ⊤
  FitsGraph w i (Wait s) g = g.out (test_of s) × g.deep (test_of s)
  FitsGraph w i (Test s) g = g.out (test_of s) × g.deep (test_of s) × g.now (test_of s)
  FitsGraph w i (Idle body) g = ⊥
  FitsGraph w i (Do s) g = IsSubgraph w i s g × g.now (entry s)
  FitsGraph w i (Seq c Done) g = ⊥
  FitsGraph w i (Seq c (Then s rest)) g = FitsGraph w i c (ahead_of (entry s) g) × SeqFitsGraph w i (Then s rest) (is_nil c) g
  FitsGraph w i (Par s stood branches) g = AllFitGraph w i branches s.bodies stood g × ForkFitsGraph w i s stood (may_join (has_strong branches) branches) g
  FitsGraph w i (Guard s Body stood c) g = FitsGraph w i c (guarded s g) × WatchFitsGraph w i s stood (may_end c) g
  FitsGraph w i (Guard s Check stood c) g = FitsGraph w i c (later_on (guarded s g)) × CheckFitsGraph w i s stood (is_nil c) g
  FitsGraph w i (Run s callee Body stood c) g =
      (unit : UnitDef) × FitsGraph w callee c (whole stood (plain_body unit.body)) × CallFitsGraph w i s callee unit stood (may_end c) g
  FitsGraph w i (Run s callee Check stood c) g =
      (unit : UnitDef) × FitsGraph w callee c (whole stood (plain_body unit.body)) × CopyFitsGraph w i s callee unit stood (is_nil c) g

  -- the tree of each branch fits the graph there
  pub AllFitGraph : Setting → ℕ → Trees → Bodies → Bool → Place → Type 0
  AllFitGraph w i no_tree Last stood g = ⊤
  AllFitGraph w i no_tree (BodyOf weak body rest) stood g = ⊥
  AllFitGraph w i (beside weak c branches) Last stood g = ⊥
  AllFitGraph w i (beside weak c branches) (BodyOf weak' body rest) stood g =
      FitsGraph w i c (in_branch stood body g) × (weak ≡ weak') × AllFitGraph w i branches rest stood g
