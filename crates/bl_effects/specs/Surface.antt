-- What a statement that begins can write before it pauses, and how many places of a statement can rest at once.
use Rattle.std.specs.Prelude.{ℕ, max, Bool, List, [], ◌∷◌, ◌++◌, map, if◌then◌else◌}
use Rattle.bl_tree.specs.declared.tree.Stmt.{Stmt, fold-Stmt}
use Rattle.bl_tree.specs.declared.tree.StmtKind.TheFolds.{map-StmtKind}
use Rattle.bl_tree.specs.declared.tree.StmtKind.TheOpen.{StmtKind-F, Arm-F, Branch-F, Stmt-F}
use Rattle.bl_tree.specs.Reduce.{all_of, joined, greatest, total}
use Rattle.bl_tree.specs.declared.static_path.Static.{Static}
use Rattle.bl_tree.specs.Instant.{BranchInstant, kind_instant}
use Rattle.bl_tree.specs.Static.{whole, static_of}

-- ---- surface writes

-- a statement or an arm: whether it may end in the tick in which it begins, and what it can write before it pauses
pub record Surface : Type 0 where
  pub instant : Bool
  pub writes : List Static

-- whether a branch may end in its first tick and is weak, and what it can write before it pauses
pub record BranchSurface : Type 0 where
  pub ends : BranchInstant
  pub writes : List Static

-- a list of statements writes what its first does and, where that may end at once, what the rest does
abbrev pub block_surface : List Surface → List Static
block_surface [] = []
block_surface (s ∷ rest) = s.writes ++ (if s.instant then block_surface rest else [])

-- whether a block may end in the tick in which it begins: each of its statements may
abbrev pub block_instant : List Surface → Bool
block_instant body = all_of (map (λ s. s.instant) body)

-- a `run` can write its outputs; its target it writes when it ends, which it does in a later tick
abbrev pub kind_surface_writes : StmtKind-F Surface Surface BranchSurface Surface → List Static
kind_surface_writes (StmtKind-F.Declare k initial) = whole k ∷ []
kind_surface_writes (StmtKind-F.Assign path e) = static_of path ∷ []
kind_surface_writes (StmtKind-F.Call f inputs outputs) = map static_of outputs
kind_surface_writes (StmtKind-F.Await e) = []
kind_surface_writes (StmtKind-F.Run target a inputs outputs) = map static_of outputs
kind_surface_writes (StmtKind-F.If arms other) = joined (map (λ arm. arm.writes) arms) ++ block_surface other
kind_surface_writes (StmtKind-F.Cobegin branches) = joined (map (λ branch. branch.writes) branches)
kind_surface_writes (StmtKind-F.When guard e body) = block_surface body
kind_surface_writes (StmtKind-F.Repeat body) = block_surface body
kind_surface_writes (StmtKind-F.Until body e) = block_surface body
kind_surface_writes (StmtKind-F.While e body) = block_surface body
kind_surface_writes (StmtKind-F.Return e) = []

-- what is known of the parts, as far as `instant` asks for it
abbrev pub instants_of : StmtKind-F Surface Surface BranchSurface Surface → StmtKind-F Bool Bool BranchInstant Bool
instants_of = map-StmtKind Surface Surface BranchSurface Surface Bool Bool BranchInstant Bool (λ s. s.instant) (λ s. s.instant) (λ s. s.ends) (λ s. s.instant)

-- a kind of statement, from what is known of its parts
abbrev pub kind_surface : StmtKind-F Surface Surface BranchSurface Surface → Surface
kind_surface kind = record { instant = kind_instant (instants_of kind); writes = kind_surface_writes kind }

-- an arm, from what is known of its statements
abbrev pub arm_surface : Arm-F Surface Surface BranchSurface Surface → Surface
arm_surface arm = record { instant = block_instant arm.body; writes = block_surface arm.body }

-- a branch, from what is known of its statements
abbrev pub branch_surface : Branch-F Surface Surface BranchSurface Surface → BranchSurface
branch_surface branch = record { ends = record { weak = branch.weak; instant = block_instant branch.body }; writes = block_surface branch.body }

-- what is known of a statement is what is known of its kind
abbrev pub stmt_surface : Stmt-F Surface Surface BranchSurface Surface → Surface
stmt_surface s = s.what

-- whether a statement may end in the tick in which it begins, and what it can write in that tick
abbrev pub surface_of : Stmt → Surface
surface_of = fold-Stmt Surface Surface BranchSurface Surface kind_surface arm_surface branch_surface stmt_surface

-- ---- width

-- the most places of a kind of statement that rest at once; each branch counts one or more, as its end rests too
abbrev pub kind_width : StmtKind-F ℕ ℕ ℕ ℕ → ℕ
kind_width (StmtKind-F.Declare k initial) = 0
kind_width (StmtKind-F.Assign path e) = 0
kind_width (StmtKind-F.Call f inputs outputs) = 0
kind_width (StmtKind-F.Await e) = 1
kind_width (StmtKind-F.Run target a inputs outputs) = 1
kind_width (StmtKind-F.If arms other) = max (greatest arms) (greatest other)
kind_width (StmtKind-F.Cobegin branches) = total branches
kind_width (StmtKind-F.When guard e body) = greatest body
kind_width (StmtKind-F.Repeat body) = greatest body
kind_width (StmtKind-F.Until body e) = greatest body
kind_width (StmtKind-F.While e body) = greatest body
kind_width (StmtKind-F.Return e) = 0

-- the width of an arm: the greatest of its statements
abbrev pub arm_width : Arm-F ℕ ℕ ℕ ℕ → ℕ
arm_width arm = greatest arm.body

-- the width of a branch: the greatest of its statements, and at least one
abbrev pub branch_width : Branch-F ℕ ℕ ℕ ℕ → ℕ
branch_width branch = max 1 (greatest branch.body)

-- the width of a statement is that of its kind
abbrev pub stmt_layer_width : Stmt-F ℕ ℕ ℕ ℕ → ℕ
stmt_layer_width s = s.what

-- the most places of a statement that rest at once
abbrev pub stmt_width : Stmt → ℕ
stmt_width = fold-Stmt ℕ ℕ ℕ ℕ kind_width arm_width branch_width stmt_layer_width

-- the most places of an activity's body that rest at once: the number of counters of its frame
abbrev pub width : List Stmt → ℕ
width body = greatest (map stmt_width body)
