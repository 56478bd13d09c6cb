-- What holds of every program, tree and store.
use Rattle.std.specs.Prelude.{ℕ, ℤ, Bool, true, List, [], ◌∷◌, ◌++◌, ◌≡◌, ◌↔◌, Some}
use Rattle.bl_tree.specs.declared.tree.Stmt.{Stmt}
use Rattle.bl_tree.specs.Static.{fields_precede}
use Rattle.bl_ctree.specs.Actions.{Action, Effect, Silent, Acts, Asks, Copies, Gives, perform}
use Rattle.bl_ctree.specs.Control.{Control, do_all, forget, is_settled, seq, woken}
use Rattle.bl_ctree.specs.Instances.{Setting}
use Rattle.bl_ctree.specs.Residual.{Residual, ResidualOf, ResidualTree, SplitsAt, TestsFit}
use Rattle.bl_ctree.specs.Means.{entry_items}
use Rattle.bl_ctree.specs.Points.{IsMember, Point, points}
use Rattle.bl_ctree.specs.Positions.{Item, Position, items_from}
use Rattle.bl_ctree.specs.Reaches.{Reaches, ReachesInside}
use Rattle.bl_ctree.specs.Steps.{Acting, IsStill, Moves, Step}
use Rattle.bl_ctree.specs.Store.{Store}
use Rattle.bl_ctree.specs.Ticks.{End, Maximal, Rests, Steps}

-- a test has either answer, every other action the answer true
abbrev pub can_answer : Effect → Bool → Bool
can_answer Silent d = d
can_answer (Acts s) d = d
can_answer (Asks e) d = true
can_answer (Copies callee inputs) d = d
can_answer (Gives callee target) d = d

-- a point among the listed ones with this action and this tree after it
pub record Listed {A : Type 0} (all : List (Point A)) (d : Bool) (a : Action) (after : A) : Type 0 where
  pub point : Point A
  pub among : IsMember (Point A) point all
  pub acts : point.action ≡ a
  pub leads : point.after d ≡ after

-- every listed point may act, by each answer that its action can have
abbrev pub PointsMove : Type 0
PointsMove =
    (w : Setting) (i : ℕ) (c : Control) (point : Point Control) → IsMember (Point Control) point (points w i c) →
    (d : Bool) → can_answer point.action.effect d ≡ true → Moves w i c d point.action (point.after d)

-- every point that may act is listed
abbrev pub MovesAreListed : Type 0
MovesAreListed = (w : Setting) (i : ℕ) (c : Control) (d : Bool) (a : Action) (c' : Control) → Moves w i c d a c' → Listed (points w i c) d a c'

-- a point of the whole tree whose action gives this store, by an answer that leads to this tree
pub record StepTaken (w : Setting) (c : Control) (store : Store) (a : Action) (c' : Control) (store' : Store) : Type 0 where
  pub answer : Bool
  pub listed : Listed (points w 0 c) answer a c'
  pub performs : perform w a store ≡ Some (record { answer = answer; store = store' })

-- the steps of a tree are its listed points
abbrev pub StepsAreListed : Type 0
StepsAreListed =
    (w : Setting) (c : Control) (store : Store) (a : Action) (c' : Control) (store' : Store) → Step w c store a c' store' ↔ StepTaken w c store a c' store'

-- no point may act exactly where none is listed
abbrev pub StillIsUnlisted : Type 0
StillIsUnlisted = (w : Setting) (c : Control) → IsStill w c ↔ (points w 0 c ≡ [])

-- nothing can act in a settled tree
abbrev pub SettledIsStill : Type 0
SettledIsStill = (w : Setting) (i : ℕ) (c : Control) → is_settled c ≡ true → points w i c ≡ []

-- ---- the order of points

-- listed by the branches that lead to them, each before all that stand after it; so no two have one path
pub data InOrder (A : Type 0) : List (Point A) → Type 0 where
  no_point : InOrder A []
  comes_first : {point : Point A} {rest : List (Point A)} →
      ((other : Point A) → IsMember (Point A) other rest → fields_precede point.path other.path ≡ true) → InOrder A rest → InOrder A (point ∷ rest)

-- points are listed in order, each once
abbrev pub PointsInOrder : Type 0
PointsInOrder = (w : Setting) (i : ℕ) (c : Control) → InOrder Control (points w i c)

-- ---- lists of steps

-- a list of steps, wherever it leads
pub record Taking (w : Setting) (c : Control) (store : Store) (actions : List Action) : Type 0 where
  pub end : End
  pub steps : Steps w c store actions end

-- the front of a list of steps is a list of steps
abbrev pub FrontsAreSteps : Type 0
FrontsAreSteps =
    (w : Setting) (c : Control) (store : Store) (front rest : List Action) (end : End) →
    Steps w c store (front ++ rest) end → Taking w c store front

-- a list of steps followed by one from where it leads is a list of steps
abbrev pub StepsFollow : Type 0
StepsFollow =
    (w : Setting) (c : Control) (store : Store) (front rest : List Action) (c' : Control) (store' : Store) (end : End) →
    Steps w c store front (Rests c' store') → Steps w c' store' rest end → Steps w c store (front ++ rest) end

-- a maximal list of steps is a list of steps
abbrev pub MaximalIsSteps : Type 0
MaximalIsSteps =
    (w : Setting) (c : Control) (store : Store) (actions : List Action) (end : End) → Maximal w c store actions end → Steps w c store actions end

-- where a point may act its action steps or traps, in every store
abbrev pub PointsAct : Type 0
PointsAct =
    (w : Setting) (c : Control) (store : Store) (d : Bool) (a : Action) (c' : Control) → Moves w 0 c d a c' → Acting w c store a

-- ---- what is left

-- the items of a block have no test at the end of a turn
abbrev pub BlocksFit : Type 0
BlocksFit = (position : Position) (k : ℕ) (body : List Stmt) → TestsFit (items_from position k body)

-- the tree of items that begin is a residual of them
abbrev pub ItemsBeginResidual : Type 0
ItemsBeginResidual = (w : Setting) (stood : Bool) (i : ℕ) (items : List Item) → TestsFit items → Residual w stood i items (do_all items)

-- what is left of an item, before what follows the item, is left of the items
abbrev pub SeqIsResidual : Type 0
SeqIsResidual =
    (w : Setting) (stood : Bool) (i : ℕ) (item : Item) (rest items : List Item) (c : Control) → SplitsAt item rest items → TestsFit rest →
    ResidualOf w stood i item c → Residual w stood i items (seq c rest)

-- a step keeps what is left of items
abbrev pub StepsKeepResidual : Type 0
StepsKeepResidual =
    (w : Setting) (stood : Bool) (i : ℕ) (items : List Item) (d : Bool) (a : Action) (c c' : Control) → Moves w i c d a c' →
    Residual w stood i items c → Residual w stood i items c'

-- waking keeps it, and then everything in it stood
abbrev pub WakingKeepsResidual : Type 0
WakingKeepsResidual = (w : Setting) (stood : Bool) (i : ℕ) (items : List Item) (c : Control) → Residual w stood i items c → Residual w true i items (woken c)

-- a whole tree that is woken is left of the entry's body, and everything in it stood
abbrev pub WokenTreeIsResidual : Type 0
WokenTreeIsResidual = (w : Setting) (c : Control) → ResidualTree w c → Residual w true 0 (entry_items w) (woken c)

-- between ticks runs reach only residuals of the entry's body
abbrev pub ReachedIsResidual : Type 0
ReachedIsResidual = (w : Setting) (rows : List (List ℤ)) (c : Control) (store : Store) → Reaches w rows c store → ResidualTree w c

-- within ticks runs reach only a residual of the entry's body
abbrev pub ReachedInsideIsResidual : Type 0
ReachedInsideIsResidual =
    (w : Setting) (rows : List (List ℤ)) (row : List ℤ) (actions : List Action) (c : Control) (store : Store) →
    ReachesInside w rows row actions (Rests c store) → Residual w true 0 (entry_items w) c

-- ---- between ticks

-- what stood in the last tick doesn't tell in the next one
abbrev pub WakingForgets : Type 0
WakingForgets = (c : Control) → woken (forget c) ≡ woken c
