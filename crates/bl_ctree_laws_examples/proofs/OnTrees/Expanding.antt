-- The instances of the activity that runs two others, and the most steps of one of its ticks.
use Rattle.std.proofs.Common.{◌≡◌, ℕ, ◌+◌, ◌*◌, List, [], ◌∷◌, ◌++◌, None, ap, map, length, refl, ◌∙◌}
use Rattle.bl_tree.specs.declared.scalar.Op.TheVariants.{Add}
use Rattle.bl_tree.specs.declared.tree.Branch.{Branch, fold-Branch, fold-roll-Branch}
use Rattle.bl_tree.specs.declared.tree.Expr.{Expr}
use Rattle.bl_tree.specs.declared.tree.Path.{fold-roll-Path}
use Rattle.bl_tree.specs.declared.tree.Stmt.{Stmt, fold-roll-Stmt}
use Rattle.bl_tree.specs.declared.tree.StmtKind.{fold-roll-StmtKind}
use Rattle.bl_tree.specs.declared.tree.StmtKind.TheOpen.{StmtKind-F}
use Rattle.bl_tree.specs.Reduce.{joined, total}
use Rattle.bl_tree.specs.Static.{Reach, reach_of, static_of, whole}
use Rattle.bl_ctree.specs.declared.instance.Instance.{Instance}
use Rattle.bl_ctree.specs.declared.instance.Run.{Run}
use Rattle.bl_ctree.specs.Instances.{called_from, expanded, instances_below, instances_of, one_a_place, runs_in, runs_in_branch, runs_of}
use Rattle.bl_ctree.specs.Measure.{arm_step_statements, branch_step_statements, count_at, instance_steps, kind_step_statements, layer_step_statements}
use Rattle.bl_ctree.specs.Measure.{step_statements_in, step_statements_of, steps}
use Rattle.bl_ctree_laws_examples.specs.Trees.Made.{at, await_true, number, set, stmt, strong, two, value, variable}
use Rattle.bl_ctree_laws_examples.specs.Trees.Calls.{caller, first_called, instances, runs, second_called, turn_stmt, units}

-- ---- `run` statements

-- the static path of a whole variable
static_is : (k : ℕ) → static_of (variable k) ≡ whole k
static_is k = ap (λ (r : Reach). r.static) path_reached
  where
    path_reached : reach_of (variable k) ≡ record { static = whole k; indices = [] }
    path_reached = rw fold-roll-Path refl

set_runs : (place k : ℕ) (e : Expr) → runs_in (set place k e) ≡ []
set_runs place k e = rw (fold-roll-Stmt, fold-roll-StmtKind) refl

pause_runs : (place : ℕ) → runs_in (await_true place) ≡ []
pause_runs place = rw (fold-roll-Stmt, fold-roll-StmtKind) refl

declare_runs : (place k : ℕ) → runs_in (stmt place (StmtKind-F.Declare k None)) ≡ []
declare_runs place k = rw (fold-roll-Stmt, fold-roll-StmtKind) refl

loop_runs : (place : ℕ) (body : List Stmt) → runs_in (stmt place (StmtKind-F.Repeat body)) ≡ joined (map runs_in body)
loop_runs place body = rw (fold-roll-Stmt, fold-roll-StmtKind) refl

fork_runs : (place : ℕ) (branches : List Branch) → runs_in (stmt place (StmtKind-F.Cobegin branches)) ≡ joined (map runs_in_branch branches)
fork_runs place branches = rw (fold-roll-Stmt, fold-roll-StmtKind) refl

strong_runs : (body : List Stmt) → runs_in_branch (strong body) ≡ joined (map runs_in body)
strong_runs body = rw fold-roll-Branch refl

-- a `run` with one output
abbrev one_run : ℕ → ℕ → ℕ → Run
one_run place a output = record { place = at place; unit = a; outputs = whole output ∷ [] }

run_runs : (place a input output : ℕ) → runs_in (runs place a input output) ≡ one_run place a output ∷ []
run_runs place a input output =
    (rw (fold-roll-Stmt, fold-roll-StmtKind) refl) ∙ (λ j. record { place = at place; unit = a; outputs = static_is output j ∷ [] } ∷ [])

turn_runs : runs_in turn_stmt ≡ one_run 8 0 2 ∷ one_run 9 1 1 ∷ []
turn_runs =
    fork_runs 7 (strong (runs 8 0 0 2 ∷ []) ∷ strong (runs 9 1 2 1 ∷ []) ∷ [])
    ∙ (λ j. joined (strong_runs (runs 8 0 0 2 ∷ []) j ∷ strong_runs (runs 9 1 2 1 ∷ []) j ∷ []))
    ∙ (λ j. joined (joined (run_runs 8 0 0 2 j ∷ []) ∷ joined (run_runs 9 1 2 1 j ∷ []) ∷ []))

first_runs : runs_of first_called ≡ []
first_runs j =
    one_a_place (joined (set_runs 1 1 (value 0) j ∷ pause_runs 2 j ∷ set_runs 3 1 (two Add (value 1) (number 10)) j ∷ []))

second_runs : runs_of second_called ≡ []
second_runs j =
    one_a_place (joined (set_runs 4 1 (two Add (value 1) (value 0)) j ∷ pause_runs 5 j ∷ set_runs 6 1 (two Add (value 1) (number 100)) j ∷ []))

caller_all : joined (map runs_in caller.body) ≡ one_run 8 0 2 ∷ one_run 9 1 1 ∷ []
caller_all =
    (λ j. joined (declare_runs 10 2 j ∷ loop_runs 11 (turn_stmt ∷ []) j ∷ []))
    ∙ (λ j. joined ([] ∷ joined (turn_runs j ∷ []) ∷ []))

caller_runs : runs_of caller ≡ one_run 8 0 2 ∷ one_run 9 1 1 ∷ []
caller_runs = (λ j. one_a_place (caller_all j))

-- ---- instances

-- an instance of a unit by itself, with those below it
abbrev alone : ℕ → List Run → List Instance
alone k below = record { unit = k; depth = 0; origin = None } ∷ instances_below (expanded units 1) 1 below

pub instances_is : instances_of units 2 ≡ instances
instances_is =
    (λ j. record { unit = 2; depth = 0; origin = None } ∷ instances_below (expanded units 2) 1 (caller_runs j))
    ∙ (λ j. record { unit = 2; depth = 0; origin = None }
    ∷ (map (called_from 1 (one_run 8 0 2)) (alone 0 (first_runs j))
    ++ (map (called_from (1 + length (map (called_from 1 (one_run 8 0 2)) (alone 0 (first_runs j)))) (one_run 9 1 1)) (alone 1 (second_runs j)) ++ [])))

-- ---- statements

set_counts : (place k : ℕ) (e : Expr) → step_statements_in (set place k e) ≡ 1
set_counts place k e = rw (fold-roll-Stmt, fold-roll-StmtKind) refl

pause_counts : (place : ℕ) → step_statements_in (await_true place) ≡ 1
pause_counts place = rw (fold-roll-Stmt, fold-roll-StmtKind) refl

declare_counts : (place k : ℕ) → step_statements_in (stmt place (StmtKind-F.Declare k None)) ≡ 1
declare_counts place k = rw (fold-roll-Stmt, fold-roll-StmtKind) refl

run_counts : (place a input output : ℕ) → step_statements_in (runs place a input output) ≡ 1
run_counts place a input output = rw (fold-roll-Stmt, fold-roll-StmtKind) refl

loop_counts : (place : ℕ) (body : List Stmt) → step_statements_in (stmt place (StmtKind-F.Repeat body)) ≡ 1 + total (map step_statements_in body)
loop_counts place body = rw (fold-roll-Stmt, fold-roll-StmtKind) refl

-- the statements of a branch
abbrev branch_counted : Branch → ℕ
branch_counted = fold-Branch ℕ ℕ ℕ ℕ kind_step_statements arm_step_statements branch_step_statements layer_step_statements

fork_counts : (place : ℕ) (branches : List Branch) → step_statements_in (stmt place (StmtKind-F.Cobegin branches)) ≡ 1 + total (map branch_counted branches)
fork_counts place branches = rw (fold-roll-Stmt, fold-roll-StmtKind) refl

strong_counts : (body : List Stmt) → branch_counted (strong body) ≡ total (map step_statements_in body)
strong_counts body = rw fold-roll-Branch refl

turn_counts : step_statements_in turn_stmt ≡ 3
turn_counts =
    fork_counts 7 (strong (runs 8 0 0 2 ∷ []) ∷ strong (runs 9 1 2 1 ∷ []) ∷ [])
    ∙ (λ j. 1 + total (strong_counts (runs 8 0 0 2 ∷ []) j ∷ strong_counts (runs 9 1 2 1 ∷ []) j ∷ []))
    ∙ (λ j. 1 + total (total (run_counts 8 0 0 2 j ∷ []) ∷ total (run_counts 9 1 2 1 j ∷ []) ∷ []))

first_counts : step_statements_of first_called ≡ 3
first_counts j =
    total (set_counts 1 1 (value 0) j ∷ pause_counts 2 j ∷ set_counts 3 1 (two Add (value 1) (number 10)) j ∷ [])

second_counts : step_statements_of second_called ≡ 3
second_counts j =
    total (set_counts 4 1 (two Add (value 1) (value 0)) j ∷ pause_counts 5 j ∷ set_counts 6 1 (two Add (value 1) (number 100)) j ∷ [])

caller_counts : step_statements_of caller ≡ 5
caller_counts =
    (λ j. total (declare_counts 10 2 j ∷ loop_counts 11 (turn_stmt ∷ []) j ∷ []))
    ∙ (λ j. total (1 ∷ (1 + total (turn_counts j ∷ [])) ∷ []))

-- ---- steps

pub steps_are : steps [] units 2 ≡ 102
steps_are =
    (λ j. total (map (instance_steps (record { structs = []; units = units; instances = instances_is j })) (instances_is j)))
    ∙ (λ j. total (6 * 1 * caller_counts j ∷ 6 * (1 * count_at (at 8) (caller_all j) + 1) * first_counts j
    ∷ 6 * (1 * count_at (at 9) (caller_all j) + 1) * second_counts j ∷ []))
