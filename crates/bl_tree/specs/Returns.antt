-- Where a unit's `return` may stand.
use Rattle.std.specs.Prelude.{Bool, true, false, not, ◌&&◌, ◌||◌, is_none, nat_eq, List, [], ◌∷◌, map, if◌then◌else◌}
use Rattle.bl_tree.specs.declared.tree.Stmt.{Stmt, fold-Stmt, out-Stmt}
use Rattle.bl_tree.specs.declared.tree.StmtKind.{out-StmtKind}
use Rattle.bl_tree.specs.declared.tree.StmtKind.TheOpen.{StmtKind-F, Arm-F, Branch-F, Stmt-F}
use Rattle.bl_tree.specs.declared.tree.Unit.{Unit as UnitDef}
use Rattle.bl_tree.specs.Reduce.{all_of, any_of}
use Rattle.bl_tree.specs.Typing.{is_activity}

-- ---- a block surely returns where its last statement is a `return`, or an `if` with an `else` all of whose arms surely return

-- the answer of the last, and no where there is none
abbrev pub last_of : List Bool → Bool
last_of [] = false
last_of (x ∷ []) = x
last_of (x ∷ y ∷ rest) = last_of (y ∷ rest)

-- whether one layer of a statement surely returns, from the answers of its arms and blocks; a loop, `cobegin` or `when` never does
abbrev pub kind_returns : StmtKind-F Bool Bool Bool Bool → Bool
kind_returns (StmtKind-F.Return e) = true
kind_returns (StmtKind-F.If arms other) = all_of arms && last_of other
kind_returns _ = false

-- an arm of an `if` surely returns where the last statement of its block does
abbrev pub arm_returns : Arm-F Bool Bool Bool Bool → Bool
arm_returns arm = last_of arm.body

-- a branch never counts as surely returning
abbrev pub branch_returns : Branch-F Bool Bool Bool Bool → Bool
branch_returns branch = false

-- a statement surely returns, or has a `return`, where its kind does
abbrev pub stmt_returns : Stmt-F Bool Bool Bool Bool → Bool
stmt_returns s = s.what

-- whether a statement surely returns
abbrev pub surely_returns : Stmt → Bool
surely_returns = fold-Stmt Bool Bool Bool Bool kind_returns arm_returns branch_returns stmt_returns

-- ---- whether a `return` stands in a statement, or is it

-- whether one layer of a statement is a `return` or has one in an arm, branch or block
abbrev pub kind_has_return : StmtKind-F Bool Bool Bool Bool → Bool
kind_has_return (StmtKind-F.Return e) = true
kind_has_return (StmtKind-F.If arms other) = any_of arms || any_of other
kind_has_return (StmtKind-F.Cobegin branches) = any_of branches
kind_has_return (StmtKind-F.When guard e body) = any_of body
kind_has_return (StmtKind-F.Repeat body) = any_of body
kind_has_return (StmtKind-F.Until body e) = any_of body
kind_has_return (StmtKind-F.While e body) = any_of body
kind_has_return _ = false

-- whether a `return` stands in the block of an arm
abbrev pub arm_has_return : Arm-F Bool Bool Bool Bool → Bool
arm_has_return arm = any_of arm.body

-- whether a `return` stands in a branch
abbrev pub branch_has_return : Branch-F Bool Bool Bool Bool → Bool
branch_has_return branch = any_of branch.body

-- whether a statement is a `return`, or one stands in it at any depth
abbrev pub has_return : Stmt → Bool
has_return = fold-Stmt Bool Bool Bool Bool kind_has_return arm_has_return branch_has_return stmt_returns

-- whether what a statement does is to return
abbrev pub is_return_kind : {A B C D : Type 0} → StmtKind-F A B C D → Bool
is_return_kind (StmtKind-F.Return e) = true
is_return_kind _ = false

-- whether a statement is itself a `return`
abbrev pub is_return : Stmt → Bool
is_return s = is_return_kind (out-StmtKind (out-Stmt s).what)

-- whether no `return` stands in a body but as its last statement
abbrev pub returns_last_alone : List Stmt → Bool
returns_last_alone [] = true
returns_last_alone (s ∷ []) = not (has_return s) || is_return s
returns_last_alone (s ∷ t ∷ rest) = not (has_return s) && returns_last_alone (t ∷ rest)

-- a function with a result has no outputs and surely returns
abbrev pub function_returns : UnitDef → Bool
function_returns unit = is_none unit.result || (nat_eq unit.outputs 0 && last_of (map surely_returns unit.body))

-- whether an activity returns only by its last statement, and does return if it has a result
abbrev pub activity_returns : UnitDef → Bool
activity_returns unit = returns_last_alone unit.body && (is_none unit.result || last_of (map is_return unit.body))

-- whether the `return` statements of a unit stand where the rule for its kind wants them
abbrev pub unit_returns : UnitDef → Bool
unit_returns unit = if is_activity unit.kind then activity_returns unit else function_returns unit
