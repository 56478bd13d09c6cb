-- How deep brackets go in a text of the C subset: a number, for each part of its tree, that the brackets open at once in its tokens don't exceed.
use Rattle.std.specs.Prelude.{ℕ, ◌+◌, max, List, map, Option, Some, None}
use Rattle.bl_tree.specs.declared.c.CFunc.{CFunc}
use Rattle.bl_tree.specs.declared.c.CPlace.{CPlace, CPlace-F, fold-CPlace}
use Rattle.bl_tree.specs.declared.c.CStep.{CStep, CStep-F, fold-CStep}
use Rattle.bl_tree.specs.declared.c.CIndex.{CIndex, CIndex-F, fold-CIndex}
use Rattle.bl_tree.specs.declared.c.CExpr.{CExpr, CExpr-F, fold-CExpr}
use Rattle.bl_tree.specs.declared.c.CExprKind.{CExprKind, CExprKind-F, fold-CExprKind}
use Rattle.bl_tree.specs.declared.c.CCall.{CCall, CCall-F, fold-CCall}
use Rattle.bl_tree.specs.declared.c.CArg.{CArg, CArg-F, fold-CArg}
use Rattle.bl_tree.specs.declared.c.CStmt.{CStmt, CStmt-F, fold-CStmt}
use Rattle.bl_tree.specs.declared.c.CStmtKind.{CStmtKind, CStmtKind-F, fold-CStmtKind}
use Rattle.bl_tree.specs.Reduce.{greatest}
use Rattle.bl_ctext.specs.Folds.{EachIs}

-- the number of what may be absent, and 0 where it is
abbrev pub none_or_depth : Option ℕ → ℕ
none_or_depth None = 0
none_or_depth (Some n) = n

-- one step of the fold for each part: its depth, where those of its own parts are known
abbrev pub arg_nesting : EachIs ℕ CArg-F → ℕ
arg_nesting (CArg-F.Value value) = value
arg_nesting (CArg-F.Address at) = at

-- the depth of an expression's form, where a literal has at most the parentheses of a negative number
abbrev pub kind_nesting : EachIs ℕ CExprKind-F → ℕ
kind_nesting (CExprKind-F.Literal s n) = 2
kind_nesting (CExprKind-F.Read at) = at
kind_nesting (CExprKind-F.Call call) = call
kind_nesting (CExprKind-F.Not operand) = operand + 1
kind_nesting (CExprKind-F.Two o left right) = max left right + 1

-- the depth of a call: its parentheses, and its deepest argument
abbrev pub call_nesting : EachIs ℕ CCall-F → ℕ
call_nesting c = greatest c.args + 1

-- the depth of an expression is that of its form
abbrev pub expr_nesting : EachIs ℕ CExpr-F → ℕ
expr_nesting e = e.what

-- the depth of an index: its bracket, the parenthesis of its function, and its expression
abbrev pub index_nesting : EachIs ℕ CIndex-F → ℕ
index_nesting i = i.at + 2

-- the depth of a place: the parentheses of (*p), or its deepest step
abbrev pub place_nesting : EachIs ℕ CPlace-F → ℕ
place_nesting p = max 1 (greatest p.steps)

-- the depth of a step is that of its index, if any
abbrev pub step_nesting : EachIs ℕ CStep-F → ℕ
step_nesting s = none_or_depth s.index

-- the depth of an expression
abbrev pub expr_depth : CExpr → ℕ
expr_depth = fold-CExpr _ _ _ _ _ _ _ arg_nesting kind_nesting call_nesting expr_nesting index_nesting place_nesting step_nesting

-- the depth of an expression's form
abbrev pub kind_depth : CExprKind → ℕ
kind_depth = fold-CExprKind _ _ _ _ _ _ _ arg_nesting kind_nesting call_nesting expr_nesting index_nesting place_nesting step_nesting

-- the depth of a place
abbrev pub place_depth : CPlace → ℕ
place_depth = fold-CPlace _ _ _ _ _ _ _ arg_nesting kind_nesting call_nesting expr_nesting index_nesting place_nesting step_nesting

-- the depth of a step of a place
abbrev pub step_depth : CStep → ℕ
step_depth = fold-CStep _ _ _ _ _ _ _ arg_nesting kind_nesting call_nesting expr_nesting index_nesting place_nesting step_nesting

-- the depth of an index
abbrev pub index_depth : CIndex → ℕ
index_depth = fold-CIndex _ _ _ _ _ _ _ arg_nesting kind_nesting call_nesting expr_nesting index_nesting place_nesting step_nesting

-- the depth of a call
abbrev pub call_depth : CCall → ℕ
call_depth = fold-CCall _ _ _ _ _ _ _ arg_nesting kind_nesting call_nesting expr_nesting index_nesting place_nesting step_nesting

-- the depth of an argument
abbrev pub arg_depth : CArg → ℕ
arg_depth = fold-CArg _ _ _ _ _ _ _ arg_nesting kind_nesting call_nesting expr_nesting index_nesting place_nesting step_nesting

-- the depth of statements in braces; of no statements at all it is 0
abbrev pub braced_nesting : Option (List ℕ) → ℕ
braced_nesting None = 0
braced_nesting (Some depths) = greatest depths + 1

-- the depth of a returned value that may be absent
abbrev pub result_depth : Option CExpr → ℕ
result_depth None = 0
result_depth (Some e) = expr_depth e

-- one step of the fold for statements
abbrev pub stmt_kind_nesting : CStmtKind-F ℕ ℕ → ℕ
stmt_kind_nesting (CStmtKind-F.Set at value) = max (place_depth at) (expr_depth value)
stmt_kind_nesting (CStmtKind-F.Clear at name) = max (place_depth at) 1
stmt_kind_nesting (CStmtKind-F.Call call) = call_depth call
stmt_kind_nesting (CStmtKind-F.If test then_part else_part) =
    max (max (expr_depth test + 1) (greatest then_part + 1)) (braced_nesting else_part)
stmt_kind_nesting (CStmtKind-F.Loop turn test body) = max (expr_depth test + 2) (max 1 (greatest body) + 2)
stmt_kind_nesting CStmtKind-F.Break = 0
stmt_kind_nesting (CStmtKind-F.Return value) = result_depth value

-- the depth of a statement is that of its form
abbrev pub stmt_nesting : CStmt-F ℕ ℕ → ℕ
stmt_nesting s = s.what

-- the depth of a statement
abbrev pub stmt_depth : CStmt → ℕ
stmt_depth = fold-CStmt _ _ stmt_kind_nesting stmt_nesting

-- the depth of a statement's form
abbrev pub stmt_kind_depth : CStmtKind → ℕ
stmt_kind_depth = fold-CStmtKind _ _ stmt_kind_nesting stmt_nesting

-- the depth of a function
abbrev pub func_depth : CFunc → ℕ
func_depth f = max 1 (greatest (map stmt_depth f.body)) + 1
