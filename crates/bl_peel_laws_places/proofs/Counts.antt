-- How many statements a body has doesn't hang on places.
use Rattle.std.proofs.Common.{◌≡◌, ℕ, List, map, refl, ap}
use Rattle.bl_tree.specs.declared.place.Place.{Place}
use Rattle.bl_tree.specs.declared.tree.Stmt.{Stmt}
use Rattle.bl_tree.specs.declared.tree.StmtKind.TheOpen.{StmtKind-F}
use Rattle.bl_tree.specs.Reduce.{total}
use Rattle.bl_tree_laws_places.specs.Placed.{placed_level, placed_stmt}
use Rattle.bl_tree_laws_places.proofs.Lists.{map-after}
use Rattle.bl_tree_laws_places.proofs.Stmts.{stmt_stays}
use Rattle.bl_peel.specs.Count.{arm_statement_count, branch_statement_count, kind_statement_count, stmt_count, stmt_layer_count}
use Rattle.bl_peel_laws_places.specs.Laws.{CountsStay}

module _ (f : Place → Place) where
  kind_stays : (level : StmtKind-F ℕ ℕ ℕ ℕ) → kind_statement_count (placed_level f level) ≡ kind_statement_count level
  kind_stays (StmtKind-F.Declare k initial) = refl
  kind_stays (StmtKind-F.Assign path e) = refl
  kind_stays (StmtKind-F.Call callee inputs outputs) = refl
  kind_stays (StmtKind-F.Await e) = refl
  kind_stays (StmtKind-F.Run target callee inputs outputs) = refl
  kind_stays (StmtKind-F.If arms other) = refl
  kind_stays (StmtKind-F.Cobegin branches) = refl
  kind_stays (StmtKind-F.When guard e body) = refl
  kind_stays (StmtKind-F.Repeat body) = refl
  kind_stays (StmtKind-F.Until body e) = refl
  kind_stays (StmtKind-F.While e body) = refl
  kind_stays (StmtKind-F.Return e) = refl

  count_stays : (s : Stmt) → stmt_count (placed_stmt f s) ≡ stmt_count s
  count_stays =
      stmt_stays f ℕ ℕ ℕ ℕ kind_statement_count arm_statement_count branch_statement_count stmt_layer_count (λ p q what. refl) kind_stays
      (λ test body. refl)

pub counts_stay : CountsStay
counts_stay f body = ap total (map-after stmt_count (placed_stmt f) body (λ k d less. count_stays f _))
