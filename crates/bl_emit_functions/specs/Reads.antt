-- Whether C reads a local or a parameter of a name. An argument that hands on its place counts, and so does an index.
use Rattle.std.specs.Prelude.{Bool, false, ◌||◌, List, map, Option, Some, None, bytes_eq}
use Rattle.bl_tree.specs.declared.text.Text.{Text}
use Rattle.bl_tree.specs.declared.c.CArg.TheOpen.{CArg-F, CExprKind-F, CCall-F, CExpr-F, CIndex-F, CPlace-F, CStep-F}
use Rattle.bl_tree.specs.declared.c.CArg.{CArg, fold-CArg}
use Rattle.bl_tree.specs.declared.c.CCall.{CCall, fold-CCall}
use Rattle.bl_tree.specs.declared.c.CExpr.{CExpr, fold-CExpr}
use Rattle.bl_tree.specs.declared.c.CPlace.{CPlace, fold-CPlace, out-CPlace}
use Rattle.bl_tree.specs.declared.c.CStep.{CStep, fold-CStep}
use Rattle.bl_tree.specs.declared.c.CStmt.{CStmt, fold-CStmt}
use Rattle.bl_tree.specs.declared.c.CStmtKind.TheOpen.{CStmtKind-F, CStmt-F}
use Rattle.bl_tree.specs.Reduce.{any_of}
use Rattle.bl_ctext.specs.Folds.{EachIs}

-- ---- in one level, where it is known of the parts

-- whether a part that may be absent reads something
abbrev pub or_nothing : Option Bool → Bool
or_nothing None = false
or_nothing (Some reads) = reads

-- an argument reads what stands in it; whose place is handed on may be read there
abbrev pub arg_reads : EachIs Bool CArg-F → Bool
arg_reads (CArg-F.Value value) = value
arg_reads (CArg-F.Address place) = place

-- an expression's form reads what is read in it
abbrev pub kind_reads : EachIs Bool CExprKind-F → Bool
kind_reads (CExprKind-F.Literal type n) = false
kind_reads (CExprKind-F.Read place) = place
kind_reads (CExprKind-F.Call call) = call
kind_reads (CExprKind-F.Not operand) = operand
kind_reads (CExprKind-F.Two op left right) = left || right

-- a call reads what its arguments read
abbrev pub call_reads : EachIs Bool CCall-F → Bool
call_reads call = any_of call.args

-- an expression reads what its form reads
abbrev pub expr_reads : EachIs Bool CExpr-F → Bool
expr_reads expr = expr.what

-- an index reads what the expression in it reads
abbrev pub index_reads : EachIs Bool CIndex-F → Bool
index_reads index = index.at

-- a place that is read has the name, or an index that reads it
abbrev pub place_reads : Text → EachIs Bool CPlace-F → Bool
place_reads name place = bytes_eq place.name name || any_of place.steps

-- a step reads what its index reads, where it has one
abbrev pub step_reads : EachIs Bool CStep-F → Bool
step_reads step = or_nothing step.index

-- ---- in expressions and statements

-- whether an expression reads the name
abbrev pub reads_in : Text → CExpr → Bool
reads_in name = fold-CExpr _ _ _ _ _ _ _ arg_reads kind_reads call_reads expr_reads index_reads (place_reads name) step_reads

-- whether a place that is read has the name, or an index that reads it
abbrev pub reads_in_place : Text → CPlace → Bool
reads_in_place name = fold-CPlace _ _ _ _ _ _ _ arg_reads kind_reads call_reads expr_reads index_reads (place_reads name) step_reads

-- whether a call reads the name
abbrev pub reads_in_call : Text → CCall → Bool
reads_in_call name = fold-CCall _ _ _ _ _ _ _ arg_reads kind_reads call_reads expr_reads index_reads (place_reads name) step_reads

-- whether an argument reads the name
abbrev pub reads_in_arg : Text → CArg → Bool
reads_in_arg name = fold-CArg _ _ _ _ _ _ _ arg_reads kind_reads call_reads expr_reads index_reads (place_reads name) step_reads

-- whether a step reads the name
abbrev pub reads_in_step : Text → CStep → Bool
reads_in_step name = fold-CStep _ _ _ _ _ _ _ arg_reads kind_reads call_reads expr_reads index_reads (place_reads name) step_reads

-- whether a place that is set reads the name in an index
abbrev pub reads_in_target : Text → CPlace → Bool
reads_in_target name place = any_of (map (reads_in_step name) (out-CPlace place).steps)

-- whether an optional expression reads the name
abbrev pub reads_in_option : Text → Option CExpr → Bool
reads_in_option name None = false
reads_in_option name (Some e) = reads_in name e

-- whether an optional block reads something, from what is known of its statements
abbrev pub block_or_nothing : Option (List Bool) → Bool
block_or_nothing None = false
block_or_nothing (Some block) = any_of block

-- one step of the fold for statements
abbrev pub stmt_kind_reads : Text → CStmtKind-F Bool Bool → Bool
stmt_kind_reads name (CStmtKind-F.Set place e) = reads_in_target name place || reads_in name e
stmt_kind_reads name (CStmtKind-F.Clear place struct) = reads_in_target name place
stmt_kind_reads name (CStmtKind-F.Call call) = reads_in_call name call
stmt_kind_reads name (CStmtKind-F.If test block other) = reads_in name test || (any_of block || block_or_nothing other)
stmt_kind_reads name (CStmtKind-F.Loop turn test body) = reads_in name test || any_of body
stmt_kind_reads name CStmtKind-F.Break = false
stmt_kind_reads name (CStmtKind-F.Return e) = reads_in_option name e

-- a statement reads what its form reads
abbrev pub stmt_reads : CStmt-F Bool Bool → Bool
stmt_reads stmt = stmt.what

-- whether a statement reads the name
abbrev pub reads_in_stmt : Text → CStmt → Bool
reads_in_stmt name = fold-CStmt Bool Bool (stmt_kind_reads name) stmt_reads

-- whether statements read the name
abbrev pub reads_in_block : Text → List CStmt → Bool
reads_in_block name stmts = any_of (map (reads_in_stmt name) stmts)
