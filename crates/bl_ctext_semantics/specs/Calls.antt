-- Which functions expressions and statements call.
use Rattle.std.specs.Prelude.{ℕ, List, [], ◌∷◌, ◌++◌, map, Option, Some, None}
use Rattle.bl_tree.specs.declared.text.Text.{Text}
use Rattle.bl_tree.specs.declared.c.CArg.TheOpen.{CArg-F, CExprKind-F, CCall-F, CExpr-F, CIndex-F, CPlace-F, CStep-F}
use Rattle.bl_tree.specs.declared.c.CArg.{CArg, fold-CArg}
use Rattle.bl_tree.specs.declared.c.CStep.{CStep, fold-CStep}
use Rattle.bl_tree.specs.declared.c.CExpr.{CExpr, fold-CExpr}
use Rattle.bl_tree.specs.declared.c.CPlace.{CPlace, fold-CPlace}
use Rattle.bl_tree.specs.declared.c.CCall.{CCall, fold-CCall}
use Rattle.bl_tree.specs.declared.c.CStmtKind.TheOpen.{CStmtKind-F, CStmt-F}
use Rattle.bl_tree.specs.declared.c.CStmt.{CStmt, fold-CStmt}
use Rattle.bl_tree.specs.Reduce.{joined, greatest}
use Rattle.bl_ctext.specs.Folds.{EachIs}
use Rattle.bl_ctext_semantics.specs.Tables.{Table, entry_or}

-- ---- in one level, where the parts' calls are known

-- a list of names
abbrev pub Names : Type 0
Names = List Text

-- one step of the fold for each part: the names that are called in it, in order
abbrev pub arg_calls : EachIs Names CArg-F → Names
arg_calls (CArg-F.Value value) = value
arg_calls (CArg-F.Address place) = place

-- the names called in an expression's form
abbrev pub kind_calls : EachIs Names CExprKind-F → Names
kind_calls (CExprKind-F.Literal type n) = []
kind_calls (CExprKind-F.Read place) = place
kind_calls (CExprKind-F.Call call) = call
kind_calls (CExprKind-F.Not operand) = operand
kind_calls (CExprKind-F.Two op left right) = left ++ right

-- the name that a call calls, and then those of its arguments
abbrev pub call_calls : EachIs Names CCall-F → Names
call_calls call = call.name ∷ joined call.args

-- the names called in an expression, from those of its form
abbrev pub expr_calls : EachIs Names CExpr-F → Names
expr_calls expr = expr.what

-- the names called in an index, from those of its expression
abbrev pub index_calls : EachIs Names CIndex-F → Names
index_calls index = index.at

-- the names called in a place, from those of its steps
abbrev pub place_calls : EachIs Names CPlace-F → Names
place_calls place = joined place.steps

-- the names of a part that may be absent
abbrev pub names_or_none : Option Names → Names
names_or_none None = []
names_or_none (Some names) = names

-- the names called in a step, from those of its index
abbrev pub step_calls : EachIs Names CStep-F → Names
step_calls step = names_or_none step.index

-- ---- the names of the called functions, one for each call

-- the names that are called in an expression, and in each of its parts
abbrev pub calls_in : CExpr → List Text
calls_in = fold-CExpr _ _ _ _ _ _ _ arg_calls kind_calls call_calls expr_calls index_calls place_calls step_calls

-- the names that are called in the indices of a place
abbrev pub calls_in_place : CPlace → List Text
calls_in_place = fold-CPlace _ _ _ _ _ _ _ arg_calls kind_calls call_calls expr_calls index_calls place_calls step_calls

-- the names that are called by a call and in its arguments
abbrev pub calls_in_call : CCall → List Text
calls_in_call = fold-CCall _ _ _ _ _ _ _ arg_calls kind_calls call_calls expr_calls index_calls place_calls step_calls

-- the names that are called in an argument
abbrev pub calls_in_arg : CArg → List Text
calls_in_arg = fold-CArg _ _ _ _ _ _ _ arg_calls kind_calls call_calls expr_calls index_calls place_calls step_calls

-- the names that are called in the index of a step
abbrev pub calls_in_step : CStep → List Text
calls_in_step = fold-CStep _ _ _ _ _ _ _ arg_calls kind_calls call_calls expr_calls index_calls place_calls step_calls

-- the names that are called in an expression that may be absent
abbrev pub calls_or_none : Option CExpr → List Text
calls_or_none None = []
calls_or_none (Some expr) = calls_in expr

-- the names of a block that may be absent
abbrev pub block_or_none : Option (List Names) → Names
block_or_none None = []
block_or_none (Some block) = joined block

-- one step of the fold for statements
abbrev pub stmt_kind_calls : CStmtKind-F Names Names → Names
stmt_kind_calls (CStmtKind-F.Set place expr) = calls_in_place place ++ calls_in expr
stmt_kind_calls (CStmtKind-F.Clear place struct) = calls_in_place place
stmt_kind_calls (CStmtKind-F.Call call) = calls_in_call call
stmt_kind_calls (CStmtKind-F.If condition block other) = calls_in condition ++ joined block ++ block_or_none other
stmt_kind_calls (CStmtKind-F.Loop turn condition body) = calls_in condition ++ joined body
stmt_kind_calls CStmtKind-F.Break = []
stmt_kind_calls (CStmtKind-F.Return expr) = calls_or_none expr

-- the names called in a statement, from those of its form
abbrev pub stmt_calls : CStmt-F Names Names → Names
stmt_calls stmt = stmt.what

-- the names that are called in a statement
abbrev pub calls_in_stmt : CStmt → List Text
calls_in_stmt = fold-CStmt Names Names stmt_kind_calls stmt_calls

-- the names that are called in a block
abbrev pub calls_in_block : List CStmt → List Text
calls_in_block stmts = joined (map calls_in_stmt stmts)

-- the greatest number of these functions in a table, where those that it doesn't have count 0
abbrev pub most : Table ℕ → List Text → ℕ
most numbers names = greatest (map (entry_or 0 numbers) names)
