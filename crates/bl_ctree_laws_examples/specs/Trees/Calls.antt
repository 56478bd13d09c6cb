-- An activity that runs two others beside each other: `activity A (i: int32)(x: int32) x = i await true x = x + 10 end`,
-- `activity B (x: int32)(o: int32) o = o + x await true o = o + 100 end` and `activity M (i: int32)(o: int32) var x: int32 repeat cobegin
-- run A(i)(x) with run B(x)(o) end end end`.
use Rattle.std.specs.Prelude.{List, [], ◌∷◌, ℕ, None, Some}
use Rattle.bl_tree.specs.declared.scalar.Op.TheVariants.{Add}
use Rattle.bl_tree.specs.declared.tree.Role.TheVariants.{Input, Output, Variable}
use Rattle.bl_tree.specs.declared.tree.Stmt.{Stmt}
use Rattle.bl_tree.specs.declared.tree.StmtKind.TheOpen.{StmtKind-F}
use Rattle.bl_tree.specs.declared.tree.Unit.{Unit as UnitDef}
use Rattle.bl_tree.specs.declared.tree.UnitKind.TheVariants.{Activity}
use Rattle.bl_tree.specs.declared.tree.Var.{Var}
use Rattle.bl_tree.specs.Static.{whole}
use Rattle.bl_ctree.specs.declared.instance.Instance.{Instance}
use Rattle.bl_ctree_laws_examples.specs.Trees.Made.{at, await_true, number, set, stmt, strong, two, value, var, variable}

-- an activity with one input and one output, these variables and this body
abbrev pub example_activity : List Var → List Stmt → UnitDef
example_activity vars body = record { name = []; place = at 0; kind = Activity; vars = vars; inputs = 1; outputs = 1; result = None; body = body }

-- the activity A of the example
abbrev pub first_called : UnitDef
first_called = example_activity (var Input ∷ var Output ∷ []) (set 1 1 (value 0) ∷ await_true 2 ∷ set 3 1 (two Add (value 1) (number 10)) ∷ [])

-- the activity B of the example
abbrev pub second_called : UnitDef
second_called =
    example_activity (var Input ∷ var Output ∷ []) (set 4 1 (two Add (value 1) (value 0)) ∷ await_true 5 ∷ set 6 1 (two Add (value 1) (number 100)) ∷ [])

-- a `run` of an activity with one input and one output
abbrev pub runs : ℕ → ℕ → ℕ → ℕ → Stmt
runs place a input output = stmt place (StmtKind-F.Run None a (value input ∷ []) (variable output ∷ []))

-- the statement that M executes in each turn
abbrev pub turn_stmt : Stmt
turn_stmt = stmt 7 (StmtKind-F.Cobegin (strong (runs 8 0 0 2 ∷ []) ∷ strong (runs 9 1 2 1 ∷ []) ∷ []))

-- the activity M of the example
abbrev pub caller : UnitDef
caller =
    example_activity (var Input ∷ var Output ∷ var Variable ∷ [])
    (stmt 10 (StmtKind-F.Declare 2 None) ∷ stmt 11 (StmtKind-F.Repeat (turn_stmt ∷ [])) ∷ [])

-- the program
abbrev pub units : List UnitDef
units = first_called ∷ second_called ∷ caller ∷ []

-- the instances of the example: M itself, A with x as its output, and B with M's o
abbrev pub instances : List Instance
instances =
    record { unit = 2; depth = 0; origin = None }
    ∷ record { unit = 0; depth = 1; origin = Some (record { caller = 0; place = at 8; outputs = whole 2 ∷ [] }) }
    ∷ record { unit = 1; depth = 1; origin = Some (record { caller = 0; place = at 9; outputs = whole 1 ∷ [] }) } ∷ []
