-- The activity instances of a program. The entry is instance 0, and each `run` statement of an instance is a further one.
use Rattle.std.specs.Prelude.{ℕ, zero, suc, ◌+◌, Bool, not, ◌&&◌, nat_eq, List, [], ◌∷◌, ◌++◌, map, length, slice_get, Option, Some, None, option_map}
use Rattle.std.specs.Prelude.{option_and_then, filter, position, unwrap_or}
use Rattle.bl_tree.specs.declared.place.Place.{Place}
use Rattle.bl_tree.specs.declared.tree.Arm.{Arm, fold-Arm}
use Rattle.bl_tree.specs.declared.tree.Branch.{Branch, fold-Branch}
use Rattle.bl_tree.specs.declared.tree.Stmt.{Stmt, fold-Stmt}
use Rattle.bl_tree.specs.declared.tree.StmtKind.TheOpen.{StmtKind-F, Arm-F, Branch-F, Stmt-F}
use Rattle.bl_tree.specs.declared.tree.StructDef.{StructDef}
use Rattle.bl_tree.specs.declared.tree.Unit.{Unit as UnitDef}
use Rattle.bl_tree.specs.Reduce.{joined}
use Rattle.bl_tree.specs.Static.{static_of}
use Rattle.bl_tree.specs.Rules.{same_place}
use Rattle.bl_ctree.specs.declared.instance.Instance.{Instance}
use Rattle.bl_ctree.specs.declared.instance.Origin.{Origin}
use Rattle.bl_ctree.specs.declared.instance.Run.{Run}

-- ---- the `run` statements of a unit

-- the `run` statements in one layer of a statement at the place, given those of its parts
abbrev pub kind_runs : StmtKind-F (Place → List Run) (List Run) (List Run) (List Run) → Place → List Run
kind_runs (StmtKind-F.Declare k initial) place = []
kind_runs (StmtKind-F.Assign path e) place = []
kind_runs (StmtKind-F.Call f inputs outputs) place = []
kind_runs (StmtKind-F.Await e) place = []
kind_runs (StmtKind-F.Run target a inputs outputs) place = record { place = place; unit = a; outputs = map static_of outputs } ∷ []
kind_runs (StmtKind-F.If arms other) place = joined arms ++ joined other
kind_runs (StmtKind-F.Cobegin branches) place = joined branches
kind_runs (StmtKind-F.When guard e body) place = joined body
kind_runs (StmtKind-F.Repeat body) place = joined body
kind_runs (StmtKind-F.Until body e) place = joined body
kind_runs (StmtKind-F.While e body) place = joined body
kind_runs (StmtKind-F.Return e) place = []

-- the `run` statements in an arm, given those of its statements
abbrev pub arm_runs : Arm-F (Place → List Run) (List Run) (List Run) (List Run) → List Run
arm_runs arm = joined arm.body

-- the `run` statements in a branch, given those of its statements
abbrev pub branch_runs : Branch-F (Place → List Run) (List Run) (List Run) (List Run) → List Run
branch_runs branch = joined branch.body

-- the `run` statements in a statement, given those of its kind for each place
abbrev pub stmt_layer_runs : Stmt-F (Place → List Run) (List Run) (List Run) (List Run) → List Run
stmt_layer_runs s = s.what s.place

-- the `run` statements in a statement, in source order
abbrev pub runs_in : Stmt → List Run
runs_in = fold-Stmt (Place → List Run) (List Run) (List Run) (List Run) kind_runs arm_runs branch_runs stmt_layer_runs

-- the `run` statements in an arm, in source order
abbrev pub runs_in_arm : Arm → List Run
runs_in_arm = fold-Arm (Place → List Run) (List Run) (List Run) (List Run) kind_runs arm_runs branch_runs stmt_layer_runs

-- the `run` statements in a branch, in source order
abbrev pub runs_in_branch : Branch → List Run
runs_in_branch = fold-Branch (Place → List Run) (List Run) (List Run) (List Run) kind_runs arm_runs branch_runs stmt_layer_runs

-- the first `run` statement of each place
abbrev pub one_a_place : List Run → List Run
one_a_place [] = []
one_a_place (run ∷ rest) = run ∷ filter (λ other. not (same_place run.place other.place)) (one_a_place rest)

-- the `run` statements of a unit, in source order; those of one place count once
abbrev pub runs_of : UnitDef → List Run
runs_of unit = one_a_place (joined (map runs_in unit.body))

-- ---- instances

-- the origin of an instance that a `run` statement of instance 0 begins, or of one below it whose callers are numbered from n on
abbrev pub origin_under : ℕ → Run → Option Origin → Option Origin
origin_under n run None = Some (record { caller = 0; place = run.place; outputs = run.outputs })
origin_under n run (Some origin) = Some (record origin { caller = n + origin.caller })

-- an instance below a called activity, as seen from its caller: it lies one deeper
abbrev pub called_from : ℕ → Run → Instance → Instance
called_from n run instance = record { unit = instance.unit; depth = suc instance.depth; origin = origin_under n run instance.origin }

-- the instances below an activity, from number n on, where those of an activity by itself are given
abbrev pub instances_below : (ℕ → List Instance) → ℕ → List Run → List Instance
instances_below alone n [] = []
instances_below alone n (run ∷ rest) =
    let inner = map (called_from n run) (alone run.unit) in
    inner ++ instances_below alone (n + length inner) rest

-- the instances that a unit expands to, itself first; chains of `run`s are no longer than the unit's position, since units run earlier ones
abbrev pub expanded : List UnitDef → ℕ → ℕ → List Instance
expanded units zero k = []
expanded units (suc longest) k =
    unwrap_or (option_map (λ unit. record { unit = k; depth = 0; origin = None }
    ∷ instances_below (expanded units longest) 1 (runs_of unit)) (slice_get units k)) []

-- the instances that the unit at the position expands to
abbrev pub instances_of : List UnitDef → ℕ → List Instance
instances_of units entry = expanded units (entry + 1) entry

-- ---- a program with its instances

-- structures and units of a program, and the instances of its entry
pub record Setting : Type 0 where
  pub structs : List StructDef
  pub units : List UnitDef
  pub instances : List Instance

-- the program with the instances that the entry at this position expands to
abbrev pub setting_of : List StructDef → List UnitDef → ℕ → Setting
setting_of structs units entry = record { structs = structs; units = units; instances = instances_of units entry }

-- whether the `run` statement at the place in the caller's instance begins what has this origin
abbrev pub begins_at : ℕ → Place → Option Origin → Bool
begins_at caller place None = Bool.false
begins_at caller place (Some origin) = nat_eq origin.caller caller && same_place origin.place place

-- the instance that the `run` statement at the place begins in its caller's instance
abbrev pub callee_of : Setting → ℕ → Place → Option ℕ
callee_of w caller place = position (λ instance. begins_at caller place instance.origin) w.instances

-- the unit of an instance; none where there is no such unit
abbrev pub unit_of : Setting → Instance → Option UnitDef
unit_of w instance = slice_get w.units instance.unit

-- the unit of the instance with this number
abbrev pub unit_at : Setting → ℕ → Option UnitDef
unit_at w i = option_and_then (unit_of w) (slice_get w.instances i)
