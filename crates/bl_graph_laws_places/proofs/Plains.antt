-- The plain statements of a body whose places are mapped.
use Rattle.std.proofs.Common.{◌≡◌, ℕ, suc, Bool, List, [], ◌∷◌, ◌++◌, map, refl, ap, ap₂, sym, ◌∙◌}
use Rattle.bl_tree.specs.declared.place.Place.{Place}
use Rattle.bl_tree.specs.declared.tree.Expr.{Expr, fold-roll-Expr}
use Rattle.bl_tree.specs.declared.tree.ExprKind.{fold-roll-ExprKind}
use Rattle.bl_tree.specs.declared.tree.Stmt.{Stmt}
use Rattle.bl_tree.specs.declared.tree.StmtKind.TheOpen.{StmtKind-F}
use Rattle.bl_tree_laws_places.specs.Placed.{placed_expr, placed_level, placed_stmt}
use Rattle.bl_tree_laws_places.proofs.Exprs.{expr_out}
use Rattle.bl_tree_laws_places.proofs.Stmts.{stmt_is, stmts_turn, turned}
use Rattle.bl_graph_nodes.specs.Plain.{Act, Arm, Block, Bodies, Body, Branch, Cobegin, Done, If, Label, Last, Plain, Position, Repeat, Then, Until, When, While}
use Rattle.bl_graph_nodes.specs.Plain.{arm_plain, block_at, block_from, bodies_from, branch_plain, else_at, if_with, inside, kind_plain, label_at, never}
use Rattle.bl_graph_nodes.specs.Plain.{passed_one, place_of_test, plain_block, plain_body, plain_stmt, stmt_plain}
use Rattle.bl_graph_laws_places.specs.Laws.{PlainBodiesMove}
use Rattle.bl_graph_laws_places.specs.Placed.{placed_block, placed_bodies, placed_plain}

module _ (f : Place → Place) where
  -- a statement that is still to be put at a position, with its places mapped
  abbrev later : (Position → Plain) → Position → Plain
  later s at = placed_plain f (s at)

  -- an arm with its places mapped
  abbrev arm_later : Arm → Arm
  arm_later arm = record { test = placed_expr f arm.test; body = λ at. placed_block f (arm.body at) }

  -- a branch with its places mapped
  abbrev branch_later : Branch → Branch
  branch_later branch = record { weak = branch.weak; body = λ at. placed_block f (branch.body at) }

  from_moves : (body : List (Position → Plain)) (k : ℕ) (at : Position) → block_from (map later body) k at ≡ placed_block f (block_from body k at)
  from_moves [] k at = refl
  from_moves (s ∷ rest) k at = ap (Then (placed_plain f (s (at ++ k ∷ [])))) (from_moves rest (suc k) at)

  block_moves : (body : List (Position → Plain)) (at : Position) → block_at (map later body) at ≡ placed_block f (block_at body at)
  block_moves body at = from_moves body 0 at

  else_moves : (l : Label) (arms : List Arm) (other : List (Position → Plain)) →
      else_at l (map arm_later arms) (block_at (map later other)) ≡ placed_block f (else_at l arms (block_at other))
  else_moves l [] other = block_moves other (inside l l.passed)
  else_moves l (arm ∷ rest) other =
      ap₂ (λ place others. Then (If l place (placed_expr f arm.test) (placed_block f (arm.body (inside l l.passed))) others) Done)
      (ap (λ layer. layer.place) (expr_out f arm.test)) (else_moves (passed_one l) rest other)

  never_moves : (place : Place) → placed_expr f (never place) ≡ never (f place)
  never_moves place = simp (fold-roll-Expr, fold-roll-ExprKind) refl

  if_moves : (l : Label) (place : Place) (arms : List Arm) (other : List (Position → Plain)) →
      if_with l (f place) (map arm_later arms) (block_at (map later other)) ≡ placed_plain f (if_with l place arms (block_at other))
  if_moves l place [] other = λ i.
      If l (f place) (sym (never_moves place) i) (block_moves other (inside l 0) i) (block_moves other (inside l 1) i)
  if_moves l place (arm ∷ rest) other =
      ap (If l (f place) (placed_expr f arm.test) (placed_block f (arm.body (inside l 0)))) (else_moves (passed_one l) rest other)

  bodies_move : (branches : List Branch) (k : ℕ) (l : Label) →
      bodies_from (map branch_later branches) k l ≡ placed_bodies f (bodies_from branches k l)
  bodies_move [] k l = refl
  bodies_move (branch ∷ rest) k l = ap (Body branch.weak (placed_block f (branch.body (inside l k)))) (bodies_move rest (suc k) l)

  abbrev Layer : Type 0
  Layer = StmtKind-F (Place → Position → Plain) Arm Branch (Position → Plain)

  by_level : (place : Place) (level : Layer) (at : Position) →
      kind_plain (placed_level f (turned arm_later branch_later later level)) (f place) at ≡ placed_plain f (kind_plain level place at)
  by_level place (StmtKind-F.Declare k initial) at = ap (Act (label_at at)) (sym (stmt_is f place (StmtKind-F.Declare k initial)))
  by_level place (StmtKind-F.Assign path e) at = ap (Act (label_at at)) (sym (stmt_is f place (StmtKind-F.Assign path e)))
  by_level place (StmtKind-F.Call callee inputs outputs) at =
      ap (Act (label_at at)) (sym (stmt_is f place (StmtKind-F.Call callee inputs outputs)))
  by_level place (StmtKind-F.Await e) at = refl
  by_level place (StmtKind-F.Run target callee inputs outputs) at = refl
  by_level place (StmtKind-F.If arms other) at = if_moves (label_at at) place arms other
  by_level place (StmtKind-F.Cobegin branches) at = ap (Cobegin (label_at at) (f place)) (bodies_move branches 0 (label_at at))
  by_level place (StmtKind-F.When guard e body) at =
      ap (When (label_at at) (f place) guard (placed_expr f e)) (block_moves body (inside (label_at at) 0))
  by_level place (StmtKind-F.Repeat body) at = ap (Repeat (label_at at) (f place)) (block_moves body (inside (label_at at) 0))
  by_level place (StmtKind-F.Until body e) at =
      ap (λ block. Until (label_at at) (f place) block (placed_expr f e)) (block_moves body (inside (label_at at) 0))
  by_level place (StmtKind-F.While e body) at =
      ap (While (label_at at) (f place) (placed_expr f e)) (block_moves body (inside (label_at at) 0))
  by_level place (StmtKind-F.Return e) at = ap (Act (label_at at)) (sym (stmt_is f place (StmtKind-F.Return e)))

  stmts_move : (body : List Stmt) → map plain_stmt (map (placed_stmt f) body) ≡ map later (map plain_stmt body)
  stmts_move =
      stmts_turn f (Place → Position → Plain) Arm Branch (Position → Plain) kind_plain arm_plain branch_plain stmt_plain arm_later branch_later later
      (λ place level. λ i at. by_level place level at i)
      (λ test body. λ i. record { test = placed_expr f test; body = λ at. block_moves body at i })
      (λ weak body. λ i. record { weak = weak; body = λ at. block_moves body at i })

  pub plain_moves : (body : List Stmt) (at : Position) → plain_block (map (placed_stmt f) body) at ≡ placed_block f (plain_block body at)
  plain_moves body at = ap (λ all. block_at all at) (stmts_move body) ∙ block_moves (map plain_stmt body) at

pub plain_bodies_move : PlainBodiesMove
plain_bodies_move f body = plain_moves f body []
