-- Files of the C subset with the places of their parts left aside.
use Rattle.std.specs.Prelude.{◌≡◌, map, Option, Some, None}
use Rattle.bl_tree.specs.declared.place.Place.{Place}
use Rattle.bl_tree.specs.declared.c.CStruct.{CStruct}
use Rattle.bl_tree.specs.declared.c.CFunc.{CFunc}
use Rattle.bl_tree.specs.declared.c.CPlace.{CPlace, fold-CPlace, roll-CPlace}
use Rattle.bl_tree.specs.declared.c.CStep.{CStep, roll-CStep}
use Rattle.bl_tree.specs.declared.c.CIndex.{CIndex, roll-CIndex}
use Rattle.bl_tree.specs.declared.c.CExpr.{CExpr, CExpr-F, fold-CExpr, roll-CExpr}
use Rattle.bl_tree.specs.declared.c.CExprKind.{CExprKind, roll-CExprKind}
use Rattle.bl_tree.specs.declared.c.CCall.{CCall, fold-CCall, roll-CCall}
use Rattle.bl_tree.specs.declared.c.CArg.{CArg, roll-CArg}
use Rattle.bl_tree.specs.declared.c.CStmt.{CStmt, CStmt-F, fold-CStmt, roll-CStmt}
use Rattle.bl_tree.specs.declared.c.CStmtKind.{CStmtKind, CStmtKind-F, roll-CStmtKind}
use Rattle.bl_ctext.specs.declared.file.CFile.{CFile}

-- the place that stands for all places
abbrev pub any_place : Place
any_place = record { start = 0; end = 0 }

-- one level of an expression, where the expressions in it have no places
abbrev pub expr_aside : CExpr-F CArg CExprKind CCall CExpr CIndex CPlace CStep → CExpr
expr_aside e = roll-CExpr (record { place = any_place; what = e.what })

-- an expression without places in it
abbrev pub placeless_expr : CExpr → CExpr
placeless_expr = fold-CExpr _ _ _ _ _ _ _ roll-CArg roll-CExprKind roll-CCall expr_aside roll-CIndex roll-CPlace roll-CStep

-- a place in C without the places in the text of the expressions in it
abbrev pub placeless_place : CPlace → CPlace
placeless_place = fold-CPlace _ _ _ _ _ _ _ roll-CArg roll-CExprKind roll-CCall expr_aside roll-CIndex roll-CPlace roll-CStep

-- a call without the places of the expressions in it
abbrev pub placeless_call : CCall → CCall
placeless_call = fold-CCall _ _ _ _ _ _ _ roll-CArg roll-CExprKind roll-CCall expr_aside roll-CIndex roll-CPlace roll-CStep

-- a returned value that may be absent, without its places
abbrev pub placeless_result : Option CExpr → Option CExpr
placeless_result None = None
placeless_result (Some e) = Some (placeless_expr e)

-- one level of a statement, where the statements in it have no places
abbrev pub stmt_kind_aside : CStmtKind-F CStmtKind CStmt → CStmtKind
stmt_kind_aside (CStmtKind-F.Set at value) = roll-CStmtKind (CStmtKind-F.Set (placeless_place at) (placeless_expr value))
stmt_kind_aside (CStmtKind-F.Clear at name) = roll-CStmtKind (CStmtKind-F.Clear (placeless_place at) name)
stmt_kind_aside (CStmtKind-F.Call call) = roll-CStmtKind (CStmtKind-F.Call (placeless_call call))
stmt_kind_aside (CStmtKind-F.If test then_part else_part) = roll-CStmtKind (CStmtKind-F.If (placeless_expr test) then_part else_part)
stmt_kind_aside (CStmtKind-F.Loop turn test body) = roll-CStmtKind (CStmtKind-F.Loop turn (placeless_expr test) body)
stmt_kind_aside CStmtKind-F.Break = roll-CStmtKind CStmtKind-F.Break
stmt_kind_aside (CStmtKind-F.Return value) = roll-CStmtKind (CStmtKind-F.Return (placeless_result value))

-- one level of a statement that is given the one place
abbrev pub stmt_aside : CStmt-F CStmtKind CStmt → CStmt
stmt_aside s = roll-CStmt (record { place = any_place; what = s.what })

-- a statement without places in it
abbrev pub placeless_stmt : CStmt → CStmt
placeless_stmt = fold-CStmt _ _ stmt_kind_aside stmt_aside

-- a struct without its place
abbrev pub placeless_struct : CStruct → CStruct
placeless_struct s = record { place = any_place; name = s.name; members = s.members }

-- a function without places in it
abbrev pub placeless_func : CFunc → CFunc
placeless_func f = record {
  place = any_place;
  fixed = f.fixed;
  result = f.result;
  name = f.name;
  params = f.params;
  locals =
      f.locals;
  body = map placeless_stmt f.body;
}

-- the two files differ in the places of their parts at most
abbrev pub SameButPlaces : CFile → CFile → Type 0
SameButPlaces file other =
    (map placeless_struct file.structs ≡ map placeless_struct other.structs) × (map placeless_func file.funcs ≡ map placeless_func other.funcs)
