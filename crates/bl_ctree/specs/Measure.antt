-- How many steps a tick can have at most in an accepted program.
use Rattle.std.specs.Prelude.{ℕ, zero, suc, ◌+◌, ◌-◌, ◌*◌, List, map, length, filter, slice_get, unwrap_or, option_map}
use Rattle.bl_tree.specs.declared.place.Place.{Place}
use Rattle.bl_tree.specs.declared.tree.Stmt.{Stmt, fold-Stmt}
use Rattle.bl_tree.specs.declared.tree.StmtKind.TheOpen.{StmtKind-F, Arm-F, Branch-F, Stmt-F}
use Rattle.bl_tree.specs.declared.tree.StructDef.{StructDef}
use Rattle.bl_tree.specs.declared.tree.Unit.{Unit as UnitDef}
use Rattle.bl_tree.specs.Reduce.{joined, total}
use Rattle.bl_tree.specs.Rules.{same_place}
use Rattle.bl_ctree.specs.declared.instance.Instance.{Instance}
use Rattle.bl_ctree.specs.declared.instance.Origin.{Origin}
use Rattle.bl_ctree.specs.declared.instance.Run.{Run}
use Rattle.bl_ctree.specs.Instances.{Setting, runs_in, setting_of, unit_at, unit_of}

-- a statement of this kind and those that stand in it, where the numbers of its parts are given
abbrev pub kind_step_statements : StmtKind-F ℕ ℕ ℕ ℕ → ℕ
kind_step_statements (StmtKind-F.Declare k initial) = 1
kind_step_statements (StmtKind-F.Assign path e) = 1
kind_step_statements (StmtKind-F.Call f inputs outputs) = 1
kind_step_statements (StmtKind-F.Await e) = 1
kind_step_statements (StmtKind-F.Run target a inputs outputs) = 1
kind_step_statements (StmtKind-F.If arms other) = 1 + (length arms - 1) + total arms + total other
kind_step_statements (StmtKind-F.Cobegin branches) = 1 + total branches
kind_step_statements (StmtKind-F.When guard e body) = 1 + total body
kind_step_statements (StmtKind-F.Repeat body) = 1 + total body
kind_step_statements (StmtKind-F.Until body e) = 1 + total body
kind_step_statements (StmtKind-F.While e body) = 1 + total body
kind_step_statements (StmtKind-F.Return e) = 1

-- the statements in an arm, where the number of each is given
abbrev pub arm_step_statements : Arm-F ℕ ℕ ℕ ℕ → ℕ
arm_step_statements arm = total arm.body

-- the statements in a branch, where the number of each is given
abbrev pub branch_step_statements : Branch-F ℕ ℕ ℕ ℕ → ℕ
branch_step_statements branch = total branch.body

-- the statements in a statement, given the number for its kind
abbrev pub layer_step_statements : Stmt-F ℕ ℕ ℕ ℕ → ℕ
layer_step_statements s = s.what

-- a statement and those that stand in it; each `elseif` counts as one
abbrev pub step_statements_in : Stmt → ℕ
step_statements_in = fold-Stmt ℕ ℕ ℕ ℕ kind_step_statements arm_step_statements branch_step_statements layer_step_statements

-- the statements of a unit, those inside others too
abbrev pub step_statements_of : UnitDef → ℕ
step_statements_of unit = total (map step_statements_in unit.body)

-- how many of the `run` statements stand at the place
abbrev pub count_at : Place → List Run → ℕ
count_at place runs = length (filter (λ run. same_place run.place place) runs)

-- how many `run` statements of the caller's unit stand at the place of the one that begins the instance
abbrev pub copies : Setting → Origin → ℕ
copies w origin = unwrap_or (option_map (λ unit. count_at origin.place (joined (map runs_in unit.body))) (unit_at w origin.caller)) 0

-- how often an instance at this depth is passed in a tick at most: once for itself, and by each copy of its `run` whenever its caller is passed
abbrev pub passes : Setting → ℕ → Instance → ℕ
passes w zero instance = 1
passes w (suc depth) instance =
    unwrap_or (option_map (λ origin. unwrap_or (option_map (passes w depth) (slice_get w.instances origin.caller)) 0 * copies w origin + 1)
    instance.origin) 1

-- a bound on the steps of an instance in a tick: six for each of its statements and each of its passes
abbrev pub instance_steps : Setting → Instance → ℕ
instance_steps w instance = 6 * passes w instance.depth instance * unwrap_or (option_map step_statements_of (unit_of w instance)) 0

-- the most steps of a tick
abbrev pub steps : List StructDef → List UnitDef → ℕ → ℕ
steps structs units entry = let w = setting_of structs units entry in total (map (instance_steps w) w.instances)
