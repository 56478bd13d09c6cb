-- Where a unit's `return` may stand, as it is written: a constant of a block is a statement here.
use Rattle.std.specs.Prelude.{Bool, true, false, ◌&&◌, ◌||◌, is_none, nat_eq, List, [], ◌∷◌, ◌++◌, map, if◌then◌else◌}
use Rattle.bl_tree.specs.declared.place.Place.{Place}
use Rattle.bl_tree.specs.declared.rule.Failure.{Failure}
use Rattle.bl_tree.specs.declared.rule.Rule.TheVariants as rule
use Rattle.bl_tree.specs.Reduce.{all_of, joined}
use Rattle.bl_tree.specs.Returns.{last_of}
use Rattle.bl_tree.specs.Typing.{is_activity, is_inhabited}
use Rattle.bl_names_tree.specs.declared.item.NamedUnit.{NamedUnit}
use Rattle.bl_names_tree.specs.declared.stmt.NamedArm.{NamedArm, fold-NamedArm}
use Rattle.bl_names_tree.specs.declared.stmt.NamedBranch.{NamedBranch, fold-NamedBranch}
use Rattle.bl_names_tree.specs.declared.stmt.NamedStmt.{NamedStmt, fold-NamedStmt, out-NamedStmt}
use Rattle.bl_names_tree.specs.declared.stmt.NamedStmtKind.{out-NamedStmtKind}
use Rattle.bl_names_tree.specs.declared.stmt.NamedStmtKind.TheOpen.{NamedStmtKind-F, NamedArm-F, NamedBranch-F, NamedStmt-F}
use Rattle.bl_types.specs.Failures.{fails_at, unless}

-- ---- whether a block surely returns: its last statement is a `return`, or an `if` with an `else` all of whose arms surely return

-- whether a kind of statement surely returns, from whether its blocks do
abbrev pub kind_returns : NamedStmtKind-F Bool Bool Bool Bool → Bool
kind_returns (NamedStmtKind-F.Return e) = true
kind_returns (NamedStmtKind-F.If arms other) = all_of arms && last_of other
kind_returns _ = false

-- whether an arm surely returns: its last statement does
abbrev pub arm_returns : NamedArm-F Bool Bool Bool Bool → Bool
arm_returns arm = last_of arm.body

-- a branch never counts as one that surely returns
abbrev pub branch_returns : NamedBranch-F Bool Bool Bool Bool → Bool
branch_returns branch = false

-- a statement surely returns where its kind does
abbrev pub layer_returns : NamedStmt-F Bool Bool Bool Bool → Bool
layer_returns s = s.what

-- whether a statement is a `return`, or an `if` that surely returns
abbrev pub surely_returns : NamedStmt → Bool
surely_returns = fold-NamedStmt Bool Bool Bool Bool kind_returns arm_returns branch_returns layer_returns

-- whether the block of an arm surely returns
abbrev pub arm_surely_returns : NamedArm → Bool
arm_surely_returns = fold-NamedArm Bool Bool Bool Bool kind_returns arm_returns branch_returns layer_returns

-- ---- each `return` in a part of a body, where none may stand; at the `return`

-- the failures of stray `return`s in a kind of statement at a place, from those of its blocks
abbrev pub kind_strays : NamedStmtKind-F (Place → List Failure) (List Failure) (List Failure) (List Failure) → Place → List Failure
kind_strays (NamedStmtKind-F.Return e) at = fails_at rule.Return at
kind_strays (NamedStmtKind-F.If arms other) at = joined arms ++ joined other
kind_strays (NamedStmtKind-F.Cobegin branches) at = joined branches
kind_strays (NamedStmtKind-F.When guard e body) at = joined body
kind_strays (NamedStmtKind-F.Repeat body) at = joined body
kind_strays (NamedStmtKind-F.Until body e) at = joined body
kind_strays (NamedStmtKind-F.While e body) at = joined body
kind_strays _ at = []

-- the failures of stray `return`s in an arm, from those of its statements
abbrev pub arm_layer_strays : NamedArm-F (Place → List Failure) (List Failure) (List Failure) (List Failure) → List Failure
arm_layer_strays arm = joined arm.body

-- the failures of stray `return`s in a branch, from those of its statements
abbrev pub branch_layer_strays : NamedBranch-F (Place → List Failure) (List Failure) (List Failure) (List Failure) → List Failure
branch_layer_strays branch = joined branch.body

-- the failures of stray `return`s in a statement, from those of its kind
abbrev pub layer_strays : NamedStmt-F (Place → List Failure) (List Failure) (List Failure) (List Failure) → List Failure
layer_strays s = s.what s.place

-- the failures of stray `return`s in a statement, itself included
abbrev pub strays_in : NamedStmt → List Failure
strays_in = fold-NamedStmt (Place → List Failure) (List Failure) (List Failure) (List Failure) kind_strays arm_layer_strays branch_layer_strays layer_strays

-- the failures in an arm
abbrev pub strays_in_arm : NamedArm → List Failure
strays_in_arm = fold-NamedArm (Place → List Failure) (List Failure) (List Failure)
    (List Failure) kind_strays arm_layer_strays branch_layer_strays layer_strays

-- the failures in a branch
abbrev pub strays_in_branch : NamedBranch → List Failure
strays_in_branch = fold-NamedBranch (Place → List Failure) (List Failure) (List Failure)
    (List Failure) kind_strays arm_layer_strays branch_layer_strays layer_strays

-- whether a kind of statement is a `return`
abbrev pub is_return_kind : {A B C D : Type 0} → NamedStmtKind-F A B C D → Bool
is_return_kind (NamedStmtKind-F.Return e) = true
is_return_kind _ = false

-- whether a statement is a `return`
abbrev pub is_return : NamedStmt → Bool
is_return s = is_return_kind (out-NamedStmtKind (out-NamedStmt s).what)

-- a statement directly in a body, by whether another follows it: it may be a `return` where it is the last
abbrev pub stray : Bool → NamedStmt → List Failure
stray true s = strays_in s
stray false s = if is_return s then [] else strays_in s

-- the failures of stray `return`s in a body; one may stand last directly in it
abbrev pub strays : List NamedStmt → List Failure
strays [] = []
strays (s ∷ rest) = stray (is_inhabited rest) s ++ strays rest

-- ---- what a unit owes

-- a function with a result has no outputs and surely returns
abbrev pub function_returns : NamedUnit → Bool
function_returns unit = is_none unit.result || (nat_eq unit.outputs 0 && last_of (map surely_returns unit.body))

-- an activity with a result ends with a `return`
abbrev pub activity_returns : NamedUnit → Bool
activity_returns unit = is_none unit.result || last_of (map is_return unit.body)

-- the failures of rule Return: a unit that doesn't return as its result asks, or a stray `return` of an activity
abbrev pub return_failures : NamedUnit → List Failure
return_failures unit =
    if is_activity unit.kind
    then unless (activity_returns unit) rule.Return unit.name.place ++ strays unit.body
    else unless (function_returns unit) rule.Return unit.name.place
