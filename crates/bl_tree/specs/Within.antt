-- What stands in a program, at any depth, and what its statements do by their places.
use Rattle.std.specs.Prelude.{◌≡◌, ℕ, Bool, true, false, List, [], ◌++◌, map, slice_get, Contains, Some, IsTrue}
use Rattle.bl_tree.specs.declared.place.Place.{Place}
use Rattle.bl_tree.specs.declared.static_path.Static.{Static}
use Rattle.bl_tree.specs.declared.tree.Arm.{Arm, out-Arm}
use Rattle.bl_tree.specs.declared.tree.Branch.{Branch, out-Branch}
use Rattle.bl_tree.specs.declared.tree.Stmt.{Stmt, out-Stmt}
use Rattle.bl_tree.specs.declared.tree.StmtKind.{StmtKind, out-StmtKind}
use Rattle.bl_tree.specs.declared.tree.StmtKind.TheOpen.{StmtKind-F}
use Rattle.bl_tree.specs.declared.tree.Unit.{Unit as UnitDef}
use Rattle.bl_tree.specs.Effects.{reads, writes}
use Rattle.bl_tree.specs.Instant.{instant}
use Rattle.bl_tree.specs.Reduce.{joined}

-- ---- the statements of a program

-- the statements that stand directly in the blocks of one layer of a statement, in source order
abbrev pub kind_children : StmtKind-F StmtKind Arm Branch Stmt → List Stmt
kind_children (StmtKind-F.If arms other) = joined (map (λ arm. (out-Arm arm).body) arms) ++ other
kind_children (StmtKind-F.Cobegin branches) = joined (map (λ branch. (out-Branch branch).body) branches)
kind_children (StmtKind-F.When guard e body) = body
kind_children (StmtKind-F.Repeat body) = body
kind_children (StmtKind-F.Until body e) = body
kind_children (StmtKind-F.While e body) = body
kind_children _ = []

-- the statements that stand directly in the blocks of a statement
abbrev pub children : Stmt → List Stmt
children s = kind_children (out-StmtKind (out-Stmt s).what)

-- the statement is this one, or stands in a block of it at any depth
pub data Within (inner : Stmt) : Stmt → Type 0 where
  itself : Within inner inner
  deeper : (outer next : Stmt) → Contains (children outer) next → Within inner next → Within inner outer

-- the statement stands in the block, at any depth
pub record StandsIn (body : List Stmt) (s : Stmt) : Type 0 where
  pub outer : Stmt
  pub is_there : Contains body outer
  pub within : Within s outer

-- the statement stands in a unit of the program, at any depth
pub record StandsInUnits (units : List UnitDef) (s : Stmt) : Type 0 where
  pub unit : UnitDef
  pub is_there : Contains units unit
  pub stands : StandsIn unit.body s

-- ---- effects by place

-- where a statement stands in the source
abbrev pub place_of : Stmt → Place
place_of s = (out-Stmt s).place

-- the effects of the statement at a place: what it reads and writes, and whether it may end in the tick in which it begins
pub record Effect : Type 0 where
  pub place : Place
  pub reads : List Static
  pub writes : List Static
  pub instant : Bool

-- a statement's place, what it reads and writes, and whether it may end in the tick in which it begins
abbrev pub effect_of : Stmt → Effect
effect_of s = record { place = place_of s; reads = reads s; writes = writes s; instant = instant s }

-- statements of one place have the same effects
abbrev pub PlacesDecide : List UnitDef → Type 0
PlacesDecide units = (s t : Stmt) → StandsInUnits units s → StandsInUnits units t → place_of s ≡ place_of t → effect_of s ≡ effect_of t

-- ---- `run` statements by place

-- whether what a statement does is to run an activity
abbrev pub is_run_kind : StmtKind-F StmtKind Arm Branch Stmt → Bool
is_run_kind (StmtKind-F.Run target a inputs outputs) = true
is_run_kind _ = false

-- whether a statement is a `run`
abbrev pub is_run : Stmt → Bool
is_run s = is_run_kind (out-StmtKind (out-Stmt s).what)

-- the branches of what a statement does, and none where that is no `cobegin`
abbrev pub kind_branches : StmtKind-F StmtKind Arm Branch Stmt → List Branch
kind_branches (StmtKind-F.Cobegin branches) = branches
kind_branches _ = []

-- the branches of a `cobegin`
abbrev pub branches_of : Stmt → List Branch
branches_of s = kind_branches (out-StmtKind (out-Stmt s).what)

-- a `run` statement stands in this branch of a statement
pub record RunsIn (outer : Stmt) (k : ℕ) (s : Stmt) : Type 0 where
  pub branch : Branch
  pub is_there : slice_get (branches_of outer) k ≡ Some branch
  pub stands : StandsIn (out-Branch branch).body s
  pub runs : IsTrue (is_run s)

-- `run` statements of one place are equal, and no two branches of a `cobegin` have `run`s of one place
pub record RunsDecide (units : List UnitDef) : Type 0 where
  pub same : (s t : Stmt) → StandsInUnits units s → StandsInUnits units t → IsTrue (is_run s) → IsTrue (is_run t) →
      place_of s ≡ place_of t → ∥ s ≡ t ∥₁
  pub apart : (outer s t : Stmt) (j k : ℕ) → StandsInUnits units outer → RunsIn outer j s → RunsIn outer k t → place_of s ≡ place_of t → j ≡ k
