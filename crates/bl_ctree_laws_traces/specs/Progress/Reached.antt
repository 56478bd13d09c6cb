-- The trees that runs reach stand in the tick graph of the entry's body.
use Rattle.std.specs.Prelude.{ℤ, Bool, true, false, List, ◌≡◌}
use Rattle.bl_graph_nodes.specs.Plain.{Block}
use Rattle.bl_ctree.specs.Actions.{Action}
use Rattle.bl_ctree.specs.Control.{Control}
use Rattle.bl_ctree.specs.Instances.{Setting}
use Rattle.bl_ctree.specs.Reaches.{Reaches, ReachesInside}
use Rattle.bl_ctree.specs.Store.{Store}
use Rattle.bl_ctree.specs.Ticks.{Rests}
use Rattle.bl_ctree_laws.specs.Bridge.{plain_tree}
use Rattle.bl_ctree_laws.specs.Runs.{entry_block}
use Rattle.bl_ctree_laws.specs.Shrinks.{Paces}
use Rattle.bl_ctree_laws.specs.Trees.{Tree, Idle, is_settled}
use Rattle.bl_ctree_laws_traces.specs.Progress.Laws.{Could}
use Rattle.bl_ctree_laws_traces.specs.Progress.FitsGraph.{FitsGraph}
use Rattle.bl_ctree_laws_traces.specs.Progress.Places.{AllCallable, whole}

-- a tree of a body between ticks: it has not begun, or it rests at its place
pub data TreeFitsGraph (w : Setting) (body : Block) : Tree → Type 0 where
  not_begun : TreeFitsGraph w body (Idle body)
  rests : (stood : Bool) (c : Tree) → is_settled c ≡ true → FitsGraph w 0 c (whole stood body) → TreeFitsGraph w body c

-- a tree fits the graph of a body in a tick: the surface where the body begins, the depth where it goes on
pub record TreeFitsGraphNow (w : Setting) (body : Block) (c : Tree) : Type 0 where
  pub stood : Bool
  pub lives : FitsGraph w 0 c (whole stood body)

-- where activities pause, and each `run` begins an instance of a unit, the trees that runs reach between ticks stand at their places
abbrev pub ReachedFitsGraph : Type 0
ReachedFitsGraph =
    (w : Setting) (rows : List (List ℤ)) (c : Control) (store : Store) → Paces w → AllCallable w → Reaches w rows c store →
    TreeFitsGraph w (entry_block w) (plain_tree c)

-- within ticks, after any steps, the trees that runs reach fit the graph of the entry's body
abbrev pub ReachedInsideFitsGraph : Type 0
ReachedInsideFitsGraph =
    (w : Setting) (rows : List (List ℤ)) (row : List ℤ) (actions : List Action) (c : Control) (store : Store) → Paces w → AllCallable w →
    ReachesInside w rows row actions (Rests c store) → TreeFitsGraphNow w (entry_block w) (plain_tree c)

-- in each reached tree that isn't settled some step could be taken, other branches' writes ignored
abbrev pub ReachedCould : Type 0
ReachedCould =
    (w : Setting) (rows : List (List ℤ)) (row : List ℤ) (actions : List Action) (c : Control) (store : Store) → Paces w → AllCallable w →
    ReachesInside w rows row actions (Rests c store) → is_settled (plain_tree c) ≡ false → Could w 0 (plain_tree c)
