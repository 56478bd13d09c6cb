-- Which statements may end in the tick in which they begin.
use Rattle.std.specs.Prelude.{Bool, true, false, not, ◌||◌, List, map, if◌then◌else◌}
use Rattle.bl_tree.specs.declared.tree.Stmt.{Stmt, fold-Stmt}
use Rattle.bl_tree.specs.declared.tree.StmtKind.TheOpen.{StmtKind-F, Arm-F, Branch-F, Stmt-F}
use Rattle.bl_tree.specs.Reduce.{all_of, any_of}

-- a branch: whether it is weak, and whether it may end in the tick in which it begins
pub record BranchInstant : Type 0 where
  pub weak : Bool
  pub instant : Bool

-- whether branches may let their `cobegin` end at once: all strong ones may end, or some branch may where none is strong
abbrev pub branches_instant : List BranchInstant → Bool
branches_instant branches =
    if any_of (map (λ branch. not branch.weak) branches)
    then all_of (map (λ branch. branch.weak || branch.instant) branches)
    else any_of (map (λ branch. branch.instant) branches)

-- a missing `else` is an empty arm
abbrev pub kind_instant : StmtKind-F Bool Bool BranchInstant Bool → Bool
kind_instant (StmtKind-F.Declare k initial) = true
kind_instant (StmtKind-F.Assign path e) = true
kind_instant (StmtKind-F.Call f inputs outputs) = true
kind_instant (StmtKind-F.Await e) = false
kind_instant (StmtKind-F.Run target a inputs outputs) = false
kind_instant (StmtKind-F.If arms other) = any_of arms || all_of other
kind_instant (StmtKind-F.Cobegin branches) = branches_instant branches
kind_instant (StmtKind-F.When guard e body) = all_of body
kind_instant (StmtKind-F.Repeat body) = false
kind_instant (StmtKind-F.Until body e) = all_of body
kind_instant (StmtKind-F.While e body) = true
kind_instant (StmtKind-F.Return e) = true

-- an arm of an `if` may end at once where all statements of its block may
abbrev pub arm_instant : Arm-F Bool Bool BranchInstant Bool → Bool
arm_instant arm = all_of arm.body

-- a branch, with whether all statements of its block may end at once
abbrev pub branch_ends : Branch-F Bool Bool BranchInstant Bool → BranchInstant
branch_ends branch = record { weak = branch.weak; instant = all_of branch.body }

-- a statement may end at once where its kind may, wherever it stands
abbrev pub stmt_instant : Stmt-F Bool Bool BranchInstant Bool → Bool
stmt_instant s = s.what

-- whether a statement may end in the tick in which it begins
abbrev pub instant : Stmt → Bool
instant = fold-Stmt Bool Bool BranchInstant Bool kind_instant arm_instant branch_ends stmt_instant

-- whether a block may: all its statements may
abbrev pub is_instant_block : List Stmt → Bool
is_instant_block body = all_of (map instant body)
