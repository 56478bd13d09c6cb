-- What the plain statements of statements are, kind by kind.
use Rattle.std.specs.Prelude.{◌≡◌, ℕ, List, [], ◌∷◌, ◌++◌, Option, Some, map, slice_get, ⊤}
use Rattle.bl_tree.specs.declared.place.Place.{Place}
use Rattle.bl_tree.specs.declared.tree.Arm.{Arm, out-Arm}
use Rattle.bl_tree.specs.declared.tree.Branch.{Branch, out-Branch}
use Rattle.bl_tree.specs.declared.tree.Expr.{Expr}
use Rattle.bl_tree.specs.declared.tree.Guard.{Guard}
use Rattle.bl_tree.specs.declared.tree.Path.{Path}
use Rattle.bl_tree.specs.declared.tree.Stmt.{Stmt, out-Stmt, roll-Stmt}
use Rattle.bl_tree.specs.declared.tree.StmtKind.{StmtKind, out-StmtKind, roll-StmtKind}
use Rattle.bl_tree.specs.declared.tree.StmtKind.TheOpen.{StmtKind-F}
use Rattle.bl_tree.specs.Instant.{instant, is_instant_block}
use Rattle.bl_graph_nodes.specs.Nodes.{Node, are_instant, is_instant, label_of, nodes_in, nodes_of}
use Rattle.bl_graph_nodes.specs.Plain.{Act, Await, Run, If, Cobegin, When, Repeat, Until, While, Arm as PlainArm, Branch as PlainBranch, Position, bodies_from}
use Rattle.bl_graph_nodes.specs.Plain.{else_at, inside, label_at, passed_one, plain_stmt, plain_block}

-- a statement by its place and its kind's parts
abbrev pub stmt : Place → StmtKind-F StmtKind Arm Branch Stmt → Stmt
stmt place layer = roll-Stmt (record { place = place; what = roll-StmtKind layer })

-- an arm with a plain block
abbrev pub plain_arm : Arm → PlainArm
plain_arm arm = record { test = (out-Arm arm).test; body = plain_block (out-Arm arm).body }

-- a branch with a plain block
abbrev pub plain_branch : Branch → PlainBranch
plain_branch branch = record { weak = (out-Branch branch).weak; body = plain_block (out-Branch branch).body }

-- a statement at a position
pub record PlainStatements : Type 0 where
  pub declaration : (place : Place) (at : Position) (k : ℕ) (initial : Option Expr) →
      let s : Stmt = stmt place (StmtKind-F.Declare k initial) in plain_stmt s at ≡ Act (label_at at) s
  pub assignment : (place : Place) (at : Position) (path : Path) (e : Expr) →
      let s : Stmt = stmt place (StmtKind-F.Assign path e) in plain_stmt s at ≡ Act (label_at at) s
  pub call : (place : Place) (at : Position) (f : ℕ) (inputs : List Expr) (outputs : List Path) →
      let s : Stmt = stmt place (StmtKind-F.Call f inputs outputs) in plain_stmt s at ≡ Act (label_at at) s
  pub returns : (place : Place) (at : Position) (e : Option Expr) →
      let s : Stmt = stmt place (StmtKind-F.Return e) in plain_stmt s at ≡ Act (label_at at) s
  pub pause : (place : Place) (at : Position) (e : Expr) → plain_stmt (stmt place (StmtKind-F.Await e)) at ≡ Await (label_at at) place e
  pub run : (place : Place) (at : Position) (target : Option Path) (a : ℕ) (inputs : List Expr) (outputs : List Path) →
      plain_stmt (stmt place (StmtKind-F.Run target a inputs outputs)) at ≡ Run (label_at at) place target a inputs outputs
  pub branching : (place : Place) (at : Position) (arm : Arm) (arms : List Arm) (other : List Stmt) →
      plain_stmt (stmt place (StmtKind-F.If (arm ∷ arms) other)) at
      ≡ If (label_at at) place (out-Arm arm).test (plain_block (out-Arm arm).body (inside (label_at at) 0))
      (else_at (passed_one (label_at at)) (map plain_arm arms) (plain_block other))
  pub parallel : (place : Place) (at : Position) (branches : List Branch) →
      plain_stmt (stmt place (StmtKind-F.Cobegin branches)) at ≡ Cobegin (label_at at) place (bodies_from (map plain_branch branches) 0 (label_at at))
  pub guarded : (place : Place) (at : Position) (guard : Guard) (e : Expr) (body : List Stmt) →
      plain_stmt (stmt place (StmtKind-F.When guard e body)) at ≡ When (label_at at) place guard e (plain_block body (inside (label_at at) 0))
  pub endless : (place : Place) (at : Position) (body : List Stmt) →
      plain_stmt (stmt place (StmtKind-F.Repeat body)) at ≡ Repeat (label_at at) place (plain_block body (inside (label_at at) 0))
  pub until : (place : Place) (at : Position) (body : List Stmt) (e : Expr) →
      plain_stmt (stmt place (StmtKind-F.Until body e)) at ≡ Until (label_at at) place (plain_block body (inside (label_at at) 0)) e
  pub while : (place : Place) (at : Position) (e : Expr) (body : List Stmt) →
      plain_stmt (stmt place (StmtKind-F.While e body)) at ≡ While (label_at at) place e (plain_block body (inside (label_at at) 0))

-- a plain statement may end in the tick in which it begins exactly where its statement may
abbrev pub InstantIsKept : Type 0
InstantIsKept = (s : Stmt) (at : Position) → is_instant (plain_stmt s at) ≡ instant s

-- a plain block may end in the tick in which it begins iff its block may
abbrev pub BlocksAreInstant : Type 0
BlocksAreInstant = (body : List Stmt) (at : Position) → are_instant (plain_block body at) ≡ is_instant_block body

-- each statement is determined by its place and the parts of its kind
abbrev pub MadeOfParts : Type 0
MadeOfParts = (s : Stmt) → stmt (out-Stmt s).place (out-StmtKind (out-Stmt s).what) ≡ s

-- a position begins with another
pub record Begins (front position : Position) : Type 0 where
  pub rest : List ℕ
  pub is : position ≡ front ++ rest

-- the labels of the nodes have positions that begin with the given one
abbrev pub Below : Position → List Node → Type 0
Below at [] = ⊤
Below at (n ∷ nodes) = Begins at (label_of n).position × Below at nodes

-- the nodes of a statement or block at a position are labelled below that position
pub record LabelsAreBelow : Type 0 where
  pub statements : (s : Stmt) (at : Position) → Below at (nodes_of (plain_stmt s at))
  pub blocks : (body : List Stmt) (at : Position) → Below at (nodes_in (plain_block body at))

-- no position begins with those of two blocks of a statement, nor of two statements of a block
abbrev pub PositionsPart : Type 0
PositionsPart = (at position : Position) (j k : ℕ) → Begins (at ++ j ∷ []) position → Begins (at ++ k ∷ []) position → j ≡ k

-- no node stands in two places of the list
abbrev pub EachOnce : List Node → Type 0
EachOnce nodes = (i j : ℕ) (n : Node) → slice_get nodes i ≡ Some n → slice_get nodes j ≡ Some n → i ≡ j

-- the nodes of a statement at a position differ, and so do those of a block
pub record NodesDiffer : Type 0 where
  pub statements : (s : Stmt) (at : Position) → EachOnce (nodes_of (plain_stmt s at))
  pub blocks : (body : List Stmt) (at : Position) → EachOnce (nodes_in (plain_block body at))
