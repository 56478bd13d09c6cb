-- What runs of a program reach, seen on plain trees.
use Rattle.std.specs.Prelude.{ℕ, ℤ, Bool, true, List, length, ◌≡◌}
use Rattle.bl_tree.specs.declared.tree.StructDef.{StructDef}
use Rattle.bl_tree.specs.declared.tree.Unit.{Unit as UnitDef}
use Rattle.bl_graph_nodes.specs.Plain.{Block}
use Rattle.bl_graph_nodes.specs.Steps.{StepLabel}
use Rattle.bl_ctree.specs.Actions.{Action}
use Rattle.bl_ctree.specs.Control.{Control}
use Rattle.bl_ctree.specs.Instances.{Setting, setting_of}
use Rattle.bl_ctree.specs.Residual as located_left
use Rattle.bl_ctree.specs.Means.{Means, ShownTrace, entry_items}
use Rattle.bl_ctree.specs.Positions.{Item}
use Rattle.bl_ctree.specs.Reaches.{Reaches, ReachesInside}
use Rattle.bl_ctree.specs.Steps as located
use Rattle.bl_ctree.specs.Store.{Store}
use Rattle.bl_ctree.specs.Ticks as ticks
use Rattle.bl_ctree_laws.specs.Bridge.{plain_items, plain_tree}
use Rattle.bl_ctree_laws.specs.Ends.{BranchesAreIndependent, PlainTreeEnd, PlainTreeIsStill, PlainTreeSteps, Rests, Trapped}
use Rattle.bl_ctree_laws.specs.Fitted.{Fitted}
use Rattle.bl_ctree_laws.specs.Laws.{Armed}
use Rattle.bl_ctree_laws.specs.Residual.{PlainResidual, PlainResidualTree}
use Rattle.bl_ctree_laws.specs.Shrinks.{Paces}

-- the plain body of the entry's activity
abbrev pub entry_block : Setting → Block
entry_block w = plain_items (entry_items w)

-- between ticks runs reach only residuals of the entry's body, as plain trees
abbrev pub ReachedIsPlainResidual : Type 0
ReachedIsPlainResidual = (w : Setting) (rows : List (List ℤ)) (c : Control) (store : Store) → Reaches w rows c store → PlainResidualTree w (entry_block w) (plain_tree c)

-- within ticks runs reach only residuals of the entry's body, as of a woken tree
abbrev pub ReachedInsideIsPlainResidual : Type 0
ReachedInsideIsPlainResidual =
    (w : Setting) (rows : List (List ℤ)) (row : List ℤ) (actions : List Action) (c : Control) (store : Store) →
    ReachesInside w rows row actions (ticks.Rests c store) → PlainResidual w true 0 (entry_block w) (plain_tree c)

-- ---- lists of steps

-- an end with its plain tree
abbrev pub plain_end : ticks.End → PlainTreeEnd
plain_end ticks.Trapped = Trapped
plain_end (ticks.Rests c store) = Rests (plain_tree c) store

-- a list of as many steps of the plain tree with this end
pub record PlainList (w : Setting) (c : Control) (store : Store) (actions : List Action) (end : ticks.End) : Type 0 where
  pub labels : List StepLabel
  pub steps : PlainTreeSteps w (plain_tree c) store labels (plain_end end)
  pub as_many : length labels ≡ length actions

-- a list of steps of what may be left of items is one of its plain tree
abbrev pub ListsArePlain : Type 0
ListsArePlain =
    (w : Setting) (stood : Bool) (items : List Item) (c : Control) (store : Store) (actions : List Action) (end : ticks.End) →
    located_left.Residual w stood 0 items c → ticks.Steps w c store actions end → PlainList w c store actions end

-- a still residual tree has a still plain tree
abbrev pub StillIsPlain : Type 0
StillIsPlain =
    (w : Setting) (stood : Bool) (items : List Item) (c : Control) → located_left.Residual w stood 0 items c → Armed c → located.IsStill w c →
    PlainTreeIsStill w (plain_tree c)

-- ---- ticks

-- two ends of a tick are one: both trap, or both rest with one store and one plain tree; so they are one outcome
pub record SameEnd (end end' : ticks.End) : Type 0 where
  pub plain : plain_end end ≡ plain_end end'
  pub outcome : ticks.outcome_at end ≡ ticks.outcome_at end'

-- if steps of different branches are independent, ticks from one row, store and plain tree have the same end
abbrev pub TicksEndAlikeByPlain : Type 0
TicksEndAlikeByPlain =
    (w : Setting) (rows rows' : List (List ℤ)) (row : List ℤ) (c c' : Control) (store : Store) (end end' : ticks.End) → Fitted w → Paces w →
    BranchesAreIndependent w true (entry_block w) → Reaches w rows c store → Reaches w rows' c' store → plain_tree c ≡ plain_tree c' →
    ticks.Tick w row c store end → ticks.Tick w row c' store end' → SameEnd end end'

-- if steps of different branches are independent, a program has at most one trace over a list of rows
abbrev pub TracesAreOne : Type 0
TracesAreOne =
    (structs : List StructDef) (units : List UnitDef) (entry : ℕ) (rows : List (List ℤ)) (one other : ShownTrace) →
    let w = setting_of structs units entry in
    Fitted w → Paces w → BranchesAreIndependent w true (entry_block w) →
    Means structs units entry rows one → Means structs units entry rows other → one ≡ other
