-- The `run` statements of a unit, and the activities that they run, by their positions.
use Rattle.std.specs.Prelude.{ℕ, not, List, [], ◌∷◌, ◌++◌, map, filter}
use Rattle.bl_tree.specs.declared.place.Place.{Place}
use Rattle.bl_tree.specs.declared.tree.Arm.{Arm, fold-Arm}
use Rattle.bl_tree.specs.declared.tree.Branch.{Branch, fold-Branch}
use Rattle.bl_tree.specs.declared.tree.Stmt.{Stmt, fold-Stmt}
use Rattle.bl_tree.specs.declared.tree.StmtKind.TheOpen.{StmtKind-F, Arm-F, Branch-F, Stmt-F}
use Rattle.bl_tree.specs.declared.tree.Unit.{Unit as UnitDef}
use Rattle.bl_tree.specs.Reduce.{joined}
use Rattle.bl_tree.specs.Rules.{same_place}
use Rattle.bl_limits_measures.specs.declared.runs.PlacedRun.{PlacedRun}

-- ---- `run` statements

-- the `run` statements in a kind of statement at the place, from those of its blocks
abbrev pub kind_runs : StmtKind-F (Place → List PlacedRun) (List PlacedRun) (List PlacedRun) (List PlacedRun) → Place → List PlacedRun
kind_runs (StmtKind-F.Declare k initial) place = []
kind_runs (StmtKind-F.Assign path e) place = []
kind_runs (StmtKind-F.Call f inputs outputs) place = []
kind_runs (StmtKind-F.Await e) place = []
kind_runs (StmtKind-F.Run target a inputs outputs) place = record { place = place; unit = a } ∷ []
kind_runs (StmtKind-F.If arms other) place = joined arms ++ joined other
kind_runs (StmtKind-F.Cobegin branches) place = joined branches
kind_runs (StmtKind-F.When guard e body) place = joined body
kind_runs (StmtKind-F.Repeat body) place = joined body
kind_runs (StmtKind-F.Until body e) place = joined body
kind_runs (StmtKind-F.While e body) place = joined body
kind_runs (StmtKind-F.Return e) place = []

-- the `run` statements in an arm, from those of its statements
abbrev pub arm_runs : Arm-F (Place → List PlacedRun) (List PlacedRun) (List PlacedRun) (List PlacedRun) → List PlacedRun
arm_runs arm = joined arm.body

-- the `run` statements in a branch, from those of its statements
abbrev pub branch_runs : Branch-F (Place → List PlacedRun) (List PlacedRun) (List PlacedRun) (List PlacedRun) → List PlacedRun
branch_runs branch = joined branch.body

-- the `run` statements in a statement are those in its kind, at its place
abbrev pub stmt_layer_runs : Stmt-F (Place → List PlacedRun) (List PlacedRun) (List PlacedRun) (List PlacedRun) → List PlacedRun
stmt_layer_runs s = s.what s.place

-- the `run` statements in a statement, at any depth, in source order
abbrev pub runs_in : Stmt → List PlacedRun
runs_in = fold-Stmt (Place → List PlacedRun) (List PlacedRun) (List PlacedRun) (List PlacedRun) kind_runs arm_runs branch_runs stmt_layer_runs

-- the `run` statements in an arm, at any depth, in source order
abbrev pub runs_in_arm : Arm → List PlacedRun
runs_in_arm = fold-Arm (Place → List PlacedRun) (List PlacedRun) (List PlacedRun) (List PlacedRun) kind_runs arm_runs branch_runs stmt_layer_runs

-- the `run` statements in a branch, at any depth, in source order
abbrev pub runs_in_branch : Branch → List PlacedRun
runs_in_branch = fold-Branch (Place → List PlacedRun) (List PlacedRun) (List PlacedRun) (List PlacedRun) kind_runs arm_runs branch_runs stmt_layer_runs

-- the first `run` statement of each place
abbrev pub one_a_place : List PlacedRun → List PlacedRun
one_a_place [] = []
one_a_place (run ∷ rest) = run ∷ filter (λ other. not (same_place run.place other.place)) (one_a_place rest)

-- ---- activities

-- the activities that `run` statements run
abbrev pub units_of : List PlacedRun → List ℕ
units_of runs = map (λ run. run.unit) runs

-- the activity of each `run` statement of a unit, in source order and with repetition
abbrev pub activities_run : UnitDef → List ℕ
activities_run unit = units_of (joined (map runs_in unit.body))

-- the activities that the first `run` statement of each place of a unit runs, in source order and with repetition
abbrev pub activities_by_place : UnitDef → List ℕ
activities_by_place unit = units_of (one_a_place (joined (map runs_in unit.body)))
