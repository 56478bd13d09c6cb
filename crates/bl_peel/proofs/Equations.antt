-- What the folds over statements give at one statement, arm and branch.
use Rattle.std.proofs.Common.{◌≡◌, ℕ, ◌+◌, max, Bool, List, ◌++◌, map, refl, ap}
use Rattle.bl_tree.specs.declared.place.Place.{Place}
use Rattle.bl_tree.specs.declared.tree.Arm.{Arm, fold-Arm, fold-roll-Arm, fold_out-Arm, out-Arm}
use Rattle.bl_tree.specs.declared.tree.Branch.{Branch, fold-Branch, fold-roll-Branch, fold_out-Branch, out-Branch, roll-Branch}
use Rattle.bl_tree.specs.declared.tree.Expr.{Expr}
use Rattle.bl_tree.specs.declared.tree.Stmt.{Stmt, fold-roll-Stmt, fold_out-Stmt, out-Stmt}
use Rattle.bl_tree.specs.declared.tree.StmtKind.{StmtKind, fold-StmtKind, fold-roll-StmtKind, fold_out-StmtKind, map-StmtKind, out-StmtKind}
use Rattle.bl_tree.specs.declared.tree.StmtKind.TheOpen.{StmtKind-F}
use Rattle.bl_tree.specs.Effects.{kind_reads, kind_writes, reads, writes}
use Rattle.bl_tree.specs.Instant.{BranchInstant, instant, is_instant_block, kind_instant}
use Rattle.bl_tree.specs.Reduce.{joined}
use Rattle.bl_tree.specs.Static.{mentions, set_of}
use Rattle.bl_effects.specs.Surface.{BranchSurface, Surface, arm_surface, arm_width, block_surface, branch_surface, branch_width, kind_surface, kind_width}
use Rattle.bl_effects.specs.Surface.{stmt_layer_width, stmt_surface, stmt_width, surface_of, width}
use Rattle.bl_effects.specs.inner.Gathered.{ends_of_branch, instant_of_arm, instant_of_kind, reads_of_arm, reads_of_branch, writes_of_arm, writes_of_branch}
use Rattle.bl_effects.proofs.GatherLemmas.{read_parts, written_parts}
use Rattle.bl_peel.specs.Count.{arm_statement_count, branch_statement_count, kind_statement_count, statement_count, stmt_count, stmt_layer_count}
use Rattle.bl_peel.specs.Peeled.{ArmPeeling, BranchPeeling, Peeling, arm_peeling, branch_peeling, kind_peeling, made_arm, made_stmt, peeling, stmt_peeling}
use Rattle.bl_peel.specs.inner.Parts.{arm_count, branch_count, peeling_of_arm, peeling_of_branch, peeling_of_kind, peeling_parts}

-- a branch with this block
abbrev pub made_branch : Bool → List Stmt → Branch
made_branch weak body = roll-Branch (record { weak = weak; body = body })

-- ---- what statements become

pub peeling_out : (s : Stmt) → peeling s ≡ peeling_of_kind (out-Stmt s).what (out-Stmt s).place
peeling_out s = fold_out-Stmt (Place → Peeling) ArmPeeling BranchPeeling Peeling kind_peeling arm_peeling branch_peeling stmt_peeling s

pub kind_out : (what : StmtKind) (place : Place) → peeling_of_kind what place ≡ kind_peeling (peeling_parts (out-StmtKind what)) place
kind_out what place =
    ap (λ (gives : Place → Peeling). gives place)
    (fold_out-StmtKind (Place → Peeling) ArmPeeling BranchPeeling Peeling kind_peeling arm_peeling branch_peeling stmt_peeling what)

pub arm_out : (arm : Arm) → peeling_of_arm arm ≡ arm_peeling (record { test = (out-Arm arm).test; body = map peeling (out-Arm arm).body })
arm_out = fold_out-Arm (Place → Peeling) ArmPeeling BranchPeeling Peeling kind_peeling arm_peeling branch_peeling stmt_peeling

pub branch_out : (branch : Branch) →
    peeling_of_branch branch ≡ branch_peeling (record { weak = (out-Branch branch).weak; body = map peeling (out-Branch branch).body })
branch_out = fold_out-Branch (Place → Peeling) ArmPeeling BranchPeeling Peeling kind_peeling arm_peeling branch_peeling stmt_peeling

pub peeling_at : (place : Place) (layer : StmtKind-F StmtKind Arm Branch Stmt) → peeling (made_stmt place layer) ≡ kind_peeling (peeling_parts layer) place
peeling_at place layer = rw (fold-roll-Stmt, fold-roll-StmtKind) refl

-- ---- whether statements may end at once

abbrev pub instant_parts : StmtKind-F StmtKind Arm Branch Stmt → StmtKind-F Bool Bool BranchInstant Bool
instant_parts = map-StmtKind StmtKind Arm Branch Stmt Bool Bool BranchInstant Bool instant_of_kind instant_of_arm ends_of_branch instant

pub instant_at : (place : Place) (layer : StmtKind-F StmtKind Arm Branch Stmt) → instant (made_stmt place layer) ≡ kind_instant (instant_parts layer)
instant_at place layer = rw (fold-roll-Stmt, fold-roll-StmtKind) refl

pub instant_arm : (e : Expr) (body : List Stmt) → instant_of_arm (made_arm e body) ≡ is_instant_block body
instant_arm e body = rw fold-roll-Arm refl

pub ends_branch : (weak : Bool) (body : List Stmt) → ends_of_branch (made_branch weak body) ≡ record { weak = weak; instant = is_instant_block body }
ends_branch weak body = rw fold-roll-Branch refl

-- ---- what they read and write

pub reads_at : (place : Place) (layer : StmtKind-F StmtKind Arm Branch Stmt) → reads (made_stmt place layer) ≡ set_of (kind_reads (read_parts layer))
reads_at place layer = rw (fold-roll-Stmt, fold-roll-StmtKind) refl

pub reads_arm : (e : Expr) (body : List Stmt) → reads_of_arm (made_arm e body) ≡ mentions e ++ joined (map reads body)
reads_arm e body = rw fold-roll-Arm refl

pub reads_branch : (weak : Bool) (body : List Stmt) → reads_of_branch (made_branch weak body) ≡ joined (map reads body)
reads_branch weak body = rw fold-roll-Branch refl

pub writes_at : (place : Place) (layer : StmtKind-F StmtKind Arm Branch Stmt) → writes (made_stmt place layer) ≡ set_of (kind_writes (written_parts layer))
writes_at place layer = rw (fold-roll-Stmt, fold-roll-StmtKind) refl

pub writes_arm : (e : Expr) (body : List Stmt) → writes_of_arm (made_arm e body) ≡ joined (map writes body)
writes_arm e body = rw fold-roll-Arm refl

pub writes_branch : (weak : Bool) (body : List Stmt) → writes_of_branch (made_branch weak body) ≡ joined (map writes body)
writes_branch weak body = rw fold-roll-Branch refl

-- ---- how many of their places rest at once

abbrev pub width_of_kind : StmtKind → ℕ
width_of_kind = fold-StmtKind ℕ ℕ ℕ ℕ kind_width arm_width branch_width stmt_layer_width

abbrev pub width_of_arm : Arm → ℕ
width_of_arm = fold-Arm ℕ ℕ ℕ ℕ kind_width arm_width branch_width stmt_layer_width

abbrev pub width_of_branch : Branch → ℕ
width_of_branch = fold-Branch ℕ ℕ ℕ ℕ kind_width arm_width branch_width stmt_layer_width

abbrev pub width_parts : StmtKind-F StmtKind Arm Branch Stmt → StmtKind-F ℕ ℕ ℕ ℕ
width_parts = map-StmtKind StmtKind Arm Branch Stmt ℕ ℕ ℕ ℕ width_of_kind width_of_arm width_of_branch stmt_width

pub width_at : (place : Place) (layer : StmtKind-F StmtKind Arm Branch Stmt) → stmt_width (made_stmt place layer) ≡ kind_width (width_parts layer)
width_at place layer = rw (fold-roll-Stmt, fold-roll-StmtKind) refl

pub width_arm : (e : Expr) (body : List Stmt) → width_of_arm (made_arm e body) ≡ width body
width_arm e body = rw fold-roll-Arm refl

pub width_branch : (weak : Bool) (body : List Stmt) → width_of_branch (made_branch weak body) ≡ max 1 (width body)
width_branch weak body = rw fold-roll-Branch refl

-- ---- what they write before they pause

abbrev pub surface_of_kind : StmtKind → Surface
surface_of_kind = fold-StmtKind Surface Surface BranchSurface Surface kind_surface arm_surface branch_surface stmt_surface

abbrev pub surface_of_arm : Arm → Surface
surface_of_arm = fold-Arm Surface Surface BranchSurface Surface kind_surface arm_surface branch_surface stmt_surface

abbrev pub surface_of_branch : Branch → BranchSurface
surface_of_branch = fold-Branch Surface Surface BranchSurface Surface kind_surface arm_surface branch_surface stmt_surface

abbrev pub surface_parts : StmtKind-F StmtKind Arm Branch Stmt → StmtKind-F Surface Surface BranchSurface Surface
surface_parts = map-StmtKind StmtKind Arm Branch Stmt Surface Surface BranchSurface Surface surface_of_kind surface_of_arm surface_of_branch surface_of

pub surface_at : (place : Place) (layer : StmtKind-F StmtKind Arm Branch Stmt) → surface_of (made_stmt place layer) ≡ kind_surface (surface_parts layer)
surface_at place layer = rw (fold-roll-Stmt, fold-roll-StmtKind) refl

pub surface_arm : (e : Expr) (body : List Stmt) → (surface_of_arm (made_arm e body)).writes ≡ block_surface (map surface_of body)
surface_arm e body = rw fold-roll-Arm refl

pub surface_branch : (weak : Bool) (body : List Stmt) → (surface_of_branch (made_branch weak body)).writes ≡ block_surface (map surface_of body)
surface_branch weak body = rw fold-roll-Branch refl

-- ---- how many there are

abbrev pub count_of_kind : StmtKind → ℕ
count_of_kind = fold-StmtKind ℕ ℕ ℕ ℕ kind_statement_count arm_statement_count branch_statement_count stmt_layer_count

abbrev pub count_parts : StmtKind-F StmtKind Arm Branch Stmt → StmtKind-F ℕ ℕ ℕ ℕ
count_parts = map-StmtKind StmtKind Arm Branch Stmt ℕ ℕ ℕ ℕ count_of_kind arm_count branch_count stmt_count

pub count_at : (place : Place) (layer : StmtKind-F StmtKind Arm Branch Stmt) → stmt_count (made_stmt place layer) ≡ kind_statement_count (count_parts layer)
count_at place layer = rw (fold-roll-Stmt, fold-roll-StmtKind) refl

pub count_arm : (e : Expr) (body : List Stmt) → arm_count (made_arm e body) ≡ statement_count body
count_arm e body = rw fold-roll-Arm refl

pub count_branch : (weak : Bool) (body : List Stmt) → branch_count (made_branch weak body) ≡ statement_count body
count_branch weak body = rw fold-roll-Branch refl
