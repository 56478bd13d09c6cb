-- Statements of the typed program with mapped places, by what they do.
use Rattle.std.proofs.Common.{◌≡◌, ℕ, Bool, List, Option, map, refl, ap, sym, ◌∙◌}
use Rattle.std.specs.Prelude.{option_map}
use Rattle.bl_tree.specs.declared.place.Place.{Place}
use Rattle.bl_tree.specs.declared.tree.Arm.{Arm, fold-roll-Arm}
use Rattle.bl_tree.specs.declared.tree.Branch.{Branch, fold-roll-Branch, roll-Branch}
use Rattle.bl_tree.specs.declared.tree.Expr.{Expr}
use Rattle.bl_tree.specs.declared.tree.Guard.{Guard}
use Rattle.bl_tree.specs.declared.tree.Path.{Path}
use Rattle.bl_tree.specs.declared.tree.Stmt.{Stmt, fold-roll-Stmt}
use Rattle.bl_tree.specs.declared.tree.StmtKind.{StmtKind, fold-roll-StmtKind}
use Rattle.bl_tree.specs.declared.tree.StmtKind.TheVariants.{rolls-Declare, rolls-Assign, rolls-Call, rolls-Await, rolls-Run, rolls-If, rolls-Cobegin}
use Rattle.bl_tree.specs.declared.tree.StmtKind.TheVariants.{rolls-When, rolls-Repeat, rolls-Until, rolls-While, rolls-Return}
use Rattle.bl_tree.specs.declared.tree.StmtKind.TheVariants as what
use Rattle.bl_tree_laws_places.specs.Placed.{placed_expr, placed_path, placed_stmt}
use Rattle.bl_tree_laws_places.proofs.Stmts.{acted, armed, branched}
use Rattle.bl_types.specs.Statements.{arm_of, stmt_made}

module _ (f : Place → Place) where
  pub declare_is : (k : ℕ) (e : Option Expr) → acted f (what.Declare k e) ≡ what.Declare k (option_map (placed_expr f) e)
  declare_is k e = ap (acted f) (sym (rolls-Declare k e)) ∙ rw fold-roll-StmtKind (rolls-Declare k (option_map (placed_expr f) e))

  pub assign_is : (path : Path) (e : Expr) → acted f (what.Assign path e) ≡ what.Assign (placed_path f path) (placed_expr f e)
  assign_is path e = ap (acted f) (sym (rolls-Assign path e)) ∙ rw fold-roll-StmtKind (rolls-Assign (placed_path f path) (placed_expr f e))

  pub call_is : (k : ℕ) (inputs : List Expr) (outputs : List Path) →
      acted f (what.Call k inputs outputs) ≡ what.Call k (map (placed_expr f) inputs) (map (placed_path f) outputs)
  call_is k inputs outputs =
      ap (acted f) (sym (rolls-Call k inputs outputs))
      ∙ rw fold-roll-StmtKind (rolls-Call k (map (placed_expr f) inputs) (map (placed_path f) outputs))

  pub await_is : (e : Expr) → acted f (what.Await e) ≡ what.Await (placed_expr f e)
  await_is e = ap (acted f) (sym (rolls-Await e)) ∙ rw fold-roll-StmtKind (rolls-Await (placed_expr f e))

  pub run_is : (target : Option Path) (k : ℕ) (inputs : List Expr) (outputs : List Path) →
      acted f (what.Run target k inputs outputs)
      ≡ what.Run (option_map (placed_path f) target) k (map (placed_expr f) inputs) (map (placed_path f) outputs)
  run_is target k inputs outputs =
      ap (acted f) (sym (rolls-Run target k inputs outputs))
      ∙ rw fold-roll-StmtKind (rolls-Run (option_map (placed_path f) target) k (map (placed_expr f) inputs) (map (placed_path f) outputs))

  pub if_is : (arms : List Arm) (other : List Stmt) → acted f (what.If arms other) ≡ what.If (map (armed f) arms) (map (placed_stmt f) other)
  if_is arms other = ap (acted f) (sym (rolls-If arms other)) ∙ rw fold-roll-StmtKind (rolls-If (map (armed f) arms) (map (placed_stmt f) other))

  pub cobegin_is : (branches : List Branch) → acted f (what.Cobegin branches) ≡ what.Cobegin (map (branched f) branches)
  cobegin_is branches = ap (acted f) (sym (rolls-Cobegin branches)) ∙ rw fold-roll-StmtKind (rolls-Cobegin (map (branched f) branches))

  pub when_is : (guard : Guard) (e : Expr) (body : List Stmt) →
      acted f (what.When guard e body) ≡ what.When guard (placed_expr f e) (map (placed_stmt f) body)
  when_is guard e body = ap (acted f) (sym (rolls-When guard e body)) ∙ rw fold-roll-StmtKind (rolls-When guard (placed_expr f e) (map (placed_stmt f) body))

  pub repeat_is : (body : List Stmt) → acted f (what.Repeat body) ≡ what.Repeat (map (placed_stmt f) body)
  repeat_is body = ap (acted f) (sym (rolls-Repeat body)) ∙ rw fold-roll-StmtKind (rolls-Repeat (map (placed_stmt f) body))

  pub until_is : (body : List Stmt) (e : Expr) → acted f (what.Until body e) ≡ what.Until (map (placed_stmt f) body) (placed_expr f e)
  until_is body e = ap (acted f) (sym (rolls-Until body e)) ∙ rw fold-roll-StmtKind (rolls-Until (map (placed_stmt f) body) (placed_expr f e))

  pub while_is : (e : Expr) (body : List Stmt) → acted f (what.While e body) ≡ what.While (placed_expr f e) (map (placed_stmt f) body)
  while_is e body = ap (acted f) (sym (rolls-While e body)) ∙ rw fold-roll-StmtKind (rolls-While (placed_expr f e) (map (placed_stmt f) body))

  pub return_is : (e : Option Expr) → acted f (what.Return e) ≡ what.Return (option_map (placed_expr f) e)
  return_is e = ap (acted f) (sym (rolls-Return e)) ∙ rw fold-roll-StmtKind (rolls-Return (option_map (placed_expr f) e))

  pub arm_is : (test : Expr) (body : List Stmt) → armed f (arm_of test body) ≡ arm_of (placed_expr f test) (map (placed_stmt f) body)
  arm_is test body = rw fold-roll-Arm refl

  pub branch_is : (weak : Bool) (body : List Stmt) →
      branched f (roll-Branch (record { weak = weak; body = body })) ≡ roll-Branch (record { weak = weak; body = map (placed_stmt f) body })
  branch_is weak body = rw fold-roll-Branch refl

  pub stmt_is : (place : Place) (kind : StmtKind) → placed_stmt f (stmt_made place kind) ≡ stmt_made (f place) (acted f kind)
  stmt_is place kind = rw fold-roll-Stmt refl
