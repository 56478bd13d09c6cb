-- Bodies in which a loop in a branch of a `cobegin` is copied once for its first turn.
use Rattle.std.specs.Prelude.{Bool, true, List, [], ◌∷◌, ◌++◌, map, if◌then◌else◌}
use Rattle.bl_tree.specs.declared.place.Place.{Place}
use Rattle.bl_tree.specs.declared.tree.Arm.{Arm, roll-Arm}
use Rattle.bl_tree.specs.declared.tree.Branch.{Branch, roll-Branch}
use Rattle.bl_tree.specs.declared.tree.Expr.{Expr, out-Expr}
use Rattle.bl_tree.specs.declared.tree.Stmt.{Stmt, fold-Stmt, roll-Stmt}
use Rattle.bl_tree.specs.declared.tree.StmtKind.{StmtKind, roll-StmtKind}
use Rattle.bl_tree.specs.declared.tree.StmtKind.TheFolds.{map-StmtKind}
use Rattle.bl_tree.specs.declared.tree.StmtKind.TheOpen.{StmtKind-F, Arm-F, Branch-F, Stmt-F}
use Rattle.bl_tree.specs.Instant.{BranchInstant, kind_instant}
use Rattle.bl_tree.specs.Reduce.{all_of}

-- ---- statements, arms and branches that are made

-- a statement of this kind at the place
abbrev pub made_stmt : Place → StmtKind-F StmtKind Arm Branch Stmt → Stmt
made_stmt place kind = roll-Stmt (record { place = place; what = roll-StmtKind kind })

-- an arm with this test and block
abbrev pub made_arm : Expr → List Stmt → Arm
made_arm test body = roll-Arm (record { test = test; body = body })

-- where an expression stands in the source
abbrev pub place_of_expr : Expr → Place
place_of_expr e = (out-Expr e).place

-- an `if` that tests the condition of a loop and stands at the place of that condition
abbrev pub made_if : Expr → List Stmt → List Stmt → Stmt
made_if e body other = made_stmt (place_of_expr e) (StmtKind-F.If (made_arm e body ∷ []) other)

-- ---- a statement and its first turn

-- what a statement becomes outside of first turns, what it becomes where it begins a branch, and whether it may end in its first tick
pub record Peeling : Type 0 where
  pub deep : Stmt
  pub front : List Stmt
  pub instant : Bool

-- what an arm becomes outside of first turns and within, and whether it may end in its first tick
pub record ArmPeeling : Type 0 where
  pub deep : Arm
  pub front : Arm
  pub instant : Bool

-- what a branch becomes, whether it is weak, and whether it may end in its first tick
pub record BranchPeeling : Type 0 where
  pub branch : Branch
  pub ends : BranchInstant

-- what a list of statements becomes outside of first turns
abbrev pub deep_of : List Peeling → List Stmt
deep_of body = map (λ s. s.deep) body

-- what a list that begins a branch becomes: first turns up to the first statement that pauses, and behind it none
abbrev pub front_of : List Peeling → List Stmt
front_of [] = []
front_of (s ∷ rest) = s.front ++ (if s.instant then front_of rest else deep_of rest)

-- whether each statement of a list may end in its first tick
abbrev pub front_ends : List Peeling → Bool
front_ends body = all_of (map (λ s. s.instant) body)

-- a kind of statement outside of first turns, from what its parts become; branches have first turns wherever they stand
abbrev pub kind_deep : StmtKind-F (Place → Peeling) ArmPeeling BranchPeeling Peeling → StmtKind-F StmtKind Arm Branch Stmt
kind_deep (StmtKind-F.Declare k initial) = StmtKind-F.Declare k initial
kind_deep (StmtKind-F.Assign path e) = StmtKind-F.Assign path e
kind_deep (StmtKind-F.Call f inputs outputs) = StmtKind-F.Call f inputs outputs
kind_deep (StmtKind-F.Await e) = StmtKind-F.Await e
kind_deep (StmtKind-F.Run target a inputs outputs) = StmtKind-F.Run target a inputs outputs
kind_deep (StmtKind-F.If arms other) = StmtKind-F.If (map (λ arm. arm.deep) arms) (deep_of other)
kind_deep (StmtKind-F.Cobegin branches) = StmtKind-F.Cobegin (map (λ branch. branch.branch) branches)
kind_deep (StmtKind-F.When guard e body) = StmtKind-F.When guard e (deep_of body)
kind_deep (StmtKind-F.Repeat body) = StmtKind-F.Repeat (deep_of body)
kind_deep (StmtKind-F.Until body e) = StmtKind-F.Until (deep_of body) e
kind_deep (StmtKind-F.While e body) = StmtKind-F.While e (deep_of body)
kind_deep (StmtKind-F.Return e) = StmtKind-F.Return e

-- a kind of statement that begins a branch, at its place: a loop becomes its first turn and the loop
abbrev pub kind_front : StmtKind-F (Place → Peeling) ArmPeeling BranchPeeling Peeling → Place → List Stmt
kind_front (StmtKind-F.Declare k initial) place = made_stmt place (StmtKind-F.Declare k initial) ∷ []
kind_front (StmtKind-F.Assign path e) place = made_stmt place (StmtKind-F.Assign path e) ∷ []
kind_front (StmtKind-F.Call f inputs outputs) place = made_stmt place (StmtKind-F.Call f inputs outputs) ∷ []
kind_front (StmtKind-F.Await e) place = made_stmt place (StmtKind-F.Await e) ∷ []
kind_front (StmtKind-F.Run target a inputs outputs) place = made_stmt place (StmtKind-F.Run target a inputs outputs) ∷ []
kind_front (StmtKind-F.If arms other) place = made_stmt place (StmtKind-F.If (map (λ arm. arm.front) arms) (front_of other)) ∷ []
kind_front (StmtKind-F.Cobegin branches) place = made_stmt place (StmtKind-F.Cobegin (map (λ branch. branch.branch) branches)) ∷ []
kind_front (StmtKind-F.When guard e body) place = made_stmt place (StmtKind-F.When guard e (front_of body)) ∷ []
kind_front (StmtKind-F.Repeat body) place = front_of body ++ made_stmt place (StmtKind-F.Repeat (deep_of body)) ∷ []
kind_front (StmtKind-F.Until body e) place = front_of body ++ made_if e [] (made_stmt place (StmtKind-F.Until (deep_of body) e) ∷ []) ∷ []
kind_front (StmtKind-F.While e body) place = made_if e (front_of body ++ made_stmt place (StmtKind-F.While e (deep_of body)) ∷ []) [] ∷ []
kind_front (StmtKind-F.Return e) place = made_stmt place (StmtKind-F.Return e) ∷ []

-- what is known of the parts, as far as `instant` asks for it
abbrev pub instants_within : StmtKind-F (Place → Peeling) ArmPeeling BranchPeeling Peeling → StmtKind-F Bool Bool BranchInstant Bool
instants_within =
    map-StmtKind (Place → Peeling) ArmPeeling BranchPeeling Peeling Bool Bool BranchInstant Bool
    (λ kind. true) (λ arm. arm.instant) (λ branch. branch.ends) (λ s. s.instant)

-- a kind of statement at this place, from what its parts become
abbrev pub kind_peeling : StmtKind-F (Place → Peeling) ArmPeeling BranchPeeling Peeling → Place → Peeling
kind_peeling kind place = record { deep = made_stmt place (kind_deep kind); front = kind_front kind place; instant = kind_instant (instants_within kind) }

-- an arm, from what its statements become
abbrev pub arm_peeling : Arm-F (Place → Peeling) ArmPeeling BranchPeeling Peeling → ArmPeeling
arm_peeling arm = record { deep = made_arm arm.test (deep_of arm.body); front = made_arm arm.test (front_of arm.body); instant = front_ends arm.body }

-- a branch, from what its statements become: it begins with first turns
abbrev pub branch_peeling : Branch-F (Place → Peeling) ArmPeeling BranchPeeling Peeling → BranchPeeling
branch_peeling branch =
    record {
      branch = roll-Branch (record { weak = branch.weak; body = front_of branch.body });
      ends = record { weak = branch.weak; instant = front_ends branch.body };
    }

-- a statement, from what its kind becomes at a place
abbrev pub stmt_peeling : Stmt-F (Place → Peeling) ArmPeeling BranchPeeling Peeling → Peeling
stmt_peeling s = s.what s.place

-- what a statement becomes outside of first turns and where it begins a branch
abbrev pub peeling : Stmt → Peeling
peeling = fold-Stmt (Place → Peeling) ArmPeeling BranchPeeling Peeling kind_peeling arm_peeling branch_peeling stmt_peeling

-- a body in which each loop that begins a branch of a `cobegin` is copied once for its first turn
abbrev pub peeled : List Stmt → List Stmt
peeled body = deep_of (map peeling body)
