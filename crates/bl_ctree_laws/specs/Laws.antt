-- What holds between control trees over located statements and those over plain ones.
use Rattle.std.specs.Prelude.{ℕ, Bool, true, false, List, [], ◌≡◌, ⊤}
use Rattle.bl_tree.specs.declared.tree.Stmt.{Stmt}
use Rattle.bl_tree.specs.declared.tree.StmtKind.TheOpen.{StmtKind-F}
use Rattle.bl_graph_nodes.specs.Plain.{plain_block, plain_stmt}
use Rattle.bl_graph_nodes.specs.Steps.{StepLabel}
use Rattle.bl_ctree.specs.Actions.{Action}
use Rattle.bl_ctree.specs.Control as control
use Rattle.bl_ctree.specs.Instances.{Setting}
use Rattle.bl_ctree.specs.Residual.{Residual, ResidualTree}
use Rattle.bl_ctree.specs.Pending as pending
use Rattle.bl_ctree.specs.Positions.{Item, Position, items_from, kind_of}
use Rattle.bl_ctree.specs.Steps as located
use Rattle.bl_ctree.specs.Store.{Location}
use Rattle.bl_ctree_laws.specs.Bridge.{deed_of, plain_at, plain_items, plain_tree}
use Rattle.bl_ctree_laws.specs.Pending.{Deed, may_end, may_write, meets}
use Rattle.bl_ctree_laws.specs.Steps.{Moves, Unmet}
use Rattle.bl_ctree_laws.specs.Trees.{Tree, is_nil, is_settled, woken}

-- a statement at a position has the plain statement of the located one, and a block the plain block of its items
pub record StatementsArePlain : Type 0 where
  pub statements : (s : Stmt) (position : Position) → plain_stmt s position ≡ plain_at (record { position = position; passed = 0; stmt = s })
  pub blocks : (body : List Stmt) (position : Position) → plain_block body position ≡ plain_items (items_from position 0 body)

-- a residual tree and its plain tree agree on whether they ended, are settled, may end and may write
pub record AnswersArePlain : Type 0 where
  pub ended : (c : control.Control) → is_nil (plain_tree c) ≡ control.is_nil c
  pub settled : (w : Setting) (stood : Bool) (i : ℕ) (items : List Item) (c : control.Control) → Residual w stood i items c →
      is_settled (plain_tree c) ≡ control.is_settled c
  pub ends : (w : Setting) (stood : Bool) (i : ℕ) (items : List Item) (c : control.Control) → Residual w stood i items c →
      may_end (plain_tree c) ≡ pending.may_end c
  pub writes : (w : Setting) (stood : Bool) (i : ℕ) (items : List Item) (c : control.Control) (at : Location) → Residual w stood i items c →
      may_write w i (plain_tree c) at ≡ pending.may_write w i c at
  pub meeting : (w : Setting) (stood : Bool) (i : ℕ) (items : List Item) (c : control.Control) (a : Action) → Residual w stood i items c →
      meets w i (plain_tree c) (deed_of a) ≡ pending.meets w i c a

-- waking commutes with taking the plain tree
abbrev pub WakingIsPlain : Type 0
WakingIsPlain = (w : Setting) (c : control.Control) → ResidualTree w c → plain_tree (control.woken c) ≡ woken (plain_tree c)

-- a step of the plain tree for a step of the tree
pub record PlainStep (w : Setting) (i : ℕ) (c : control.Control) (d : Bool) (a : Action) (c' : control.Control) : Type 0 where
  pub label : StepLabel
  pub moves : Moves Unmet w i (plain_tree c) d (deed_of a) label (plain_tree c')

-- a step of the tree for a step of its plain tree
pub record LocatedStep (w : Setting) (i : ℕ) (c : control.Control) (d : Bool) (a : Deed) (c' : Tree) : Type 0 where
  pub action : Action
  pub after : control.Control
  pub moves : located.Moves w i c d action after
  pub does : deed_of action ≡ a
  pub leads : plain_tree after ≡ c'

-- each step of a residual tree is a step of its plain tree, with the same deed
abbrev pub StepsArePlain : Type 0
StepsArePlain =
    (w : Setting) (stood : Bool) (i : ℕ) (items : List Item) (c : control.Control) (d : Bool) (a : Action) (c' : control.Control) →
    Residual w stood i items c → located.Moves w i c d a c' → PlainStep w i c d a c'

-- whether a statement isn't an `if` without an arm, which no program has
abbrev pub has_arm : {A B C D : Type 0} → StmtKind-F A B C D → Bool
has_arm (StmtKind-F.If [] other) = false
has_arm _ = true

abbrev mutual
  -- each `if` that is to begin in the tree has an arm
  pub Armed : control.Control → Type 0
  Armed control.Nil = ⊤
  Armed (control.Wait s) = ⊤
  Armed (control.Test s) = ⊤
  Armed (control.Idle items) = ⊤
  Armed (control.Do s) = has_arm (kind_of s) ≡ true
  Armed (control.Turn s) = ⊤
  Armed (control.Seq c rest) = Armed c
  Armed (control.Par s stood branches) = AllArmed branches
  Armed (control.Guard s phase stood c) = Armed c
  Armed (control.Run s callee phase stood c) = Armed c

  -- each `if` that is to begin in the branches has an arm
  pub AllArmed : control.Branches → Type 0
  AllArmed control.no_branch = ⊤
  AllArmed (control.branch weak c rest) = Armed c × AllArmed rest

-- each step of a plain tree is a step of the residual tree that it is made of
abbrev pub PlainStepsAreSteps : Type 0
PlainStepsAreSteps =
    (w : Setting) (stood : Bool) (i : ℕ) (items : List Item) (c : control.Control) (d : Bool) (a : Deed) (n : StepLabel) (c' : Tree) →
    Residual w stood i items c → Armed c → Moves Unmet w i (plain_tree c) d a n c' → LocatedStep w i c d a c'
