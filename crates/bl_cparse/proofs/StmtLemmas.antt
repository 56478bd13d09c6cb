-- A statement has a token.
use Rattle.std.proofs.Common.{◌≤◌, [], length, Some, None, subst, arith}
use Rattle.std.specs.Prelude.{codes}
use Rattle.bl_tree.specs.declared.place.Place.{Place as TextPlace}
use Rattle.bl_tree.specs.declared.c.CStmt.{CStmt, fold-roll-CStmt, roll-CStmt}
use Rattle.bl_tree.specs.declared.c.CStmtKind.{CStmtKind, CStmtKind-F, fold-roll-CStmtKind, map-CStmtKind, roll-CStmtKind, ind-CStmtKind}
use Rattle.bl_ctext.specs.Spelling.{stmt_tokens, stmt_kind_tokens, place_tokens, ccall_tokens}
use Rattle.bl_cparse.proofs.ListLemmas.{some_behind}

abbrev OfKind : CStmtKind → Type 0
OfKind k = 1 ≤ length (stmt_kind_tokens k)

abbrev OfStmt : CStmt → Type 0
OfStmt s = 1 ≤ length (stmt_tokens s)

abbrev Kind : Type 0
Kind = (k : CStmtKind) × OfKind k

abbrev Stmt : Type 0
Stmt = (s : CStmt) × OfStmt s

abbrev plain_kind : CStmtKind-F Kind Stmt → CStmtKind-F CStmtKind CStmt
plain_kind = map-CStmtKind Kind Stmt CStmtKind CStmt (λ e. e.0) (λ e. e.0)

by_kind : (y : CStmtKind-F Kind Stmt) → OfKind (roll-CStmtKind (plain_kind y))
by_kind (CStmtKind-F.Set at value) = rw fold-roll-CStmtKind (some_behind (place_tokens at) (codes "=") _)
by_kind (CStmtKind-F.Clear at name) = rw fold-roll-CStmtKind (some_behind (place_tokens at) (codes "=") _)
by_kind (CStmtKind-F.Call call) = rw fold-roll-CStmtKind (some_behind (ccall_tokens call) (codes ";") _)
by_kind (CStmtKind-F.If test inner None) = rw fold-roll-CStmtKind (omega arith)
by_kind (CStmtKind-F.If test inner (Some other)) = rw fold-roll-CStmtKind (omega arith)
by_kind (CStmtKind-F.Loop turn test body) = rw fold-roll-CStmtKind (omega arith)
by_kind CStmtKind-F.Break = rw fold-roll-CStmtKind (omega arith)
by_kind (CStmtKind-F.Return result) = rw fold-roll-CStmtKind (some_behind [] (codes "return") _)

by_stmt : (place : TextPlace) (what : Kind) → OfStmt (roll-CStmt (record { place = place; what = what.0 }))
by_stmt place what = rw fold-roll-CStmt what.1

pub kind_some : (k : CStmtKind) → 1 ≤ length (stmt_kind_tokens k)
kind_some =
    ind-CStmtKind OfKind OfStmt
    (λ x y is. subst (λ layer. OfKind (roll-CStmtKind layer)) is (by_kind y))
    (λ x y is. subst (λ layer. OfStmt (roll-CStmt layer)) is (by_stmt y.place y.what))
