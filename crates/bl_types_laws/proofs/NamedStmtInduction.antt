-- Induction over named statements, arms and branches: one case for each kind, with what is known of the parts inside.
use Rattle.std.proofs.Common.{ℕ, Bool, List, subst}
use Rattle.std.specs.Prelude.{All, Option}
use Rattle.bl_tree.specs.declared.place.Place.{Place}
use Rattle.bl_tree.specs.declared.tree.Guard.{Guard}
use Rattle.bl_names_tree.specs.declared.expr.NamedExpr.{NamedExpr}
use Rattle.bl_names_tree.specs.declared.expr.NamedTarget.{NamedTarget}
use Rattle.bl_names_tree.specs.declared.stmt.NamedArm.{NamedArm, ind-NamedArm, roll-NamedArm}
use Rattle.bl_names_tree.specs.declared.stmt.NamedBranch.{NamedBranch, ind-NamedBranch, roll-NamedBranch}
use Rattle.bl_names_tree.specs.declared.stmt.NamedPath.{NamedPath}
use Rattle.bl_names_tree.specs.declared.stmt.NamedStmt.{NamedStmt, ind-NamedStmt, roll-NamedStmt}
use Rattle.bl_names_tree.specs.declared.stmt.NamedStmtKind.{NamedStmtKind, roll-NamedStmtKind}
use Rattle.bl_names_tree.specs.declared.stmt.NamedStmtKind.TheFolds.{map-NamedStmtKind}
use Rattle.bl_names_tree.specs.declared.stmt.NamedStmtKind.TheOpen.{NamedStmtKind-F}
use Rattle.bl_tree.proofs.StmtInduction.{each_such}

-- a statement by its place and its kind's parts
abbrev pub stmt : Place → NamedStmtKind-F NamedStmtKind NamedArm NamedBranch NamedStmt → NamedStmt
stmt place layer = roll-NamedStmt (record { place = place; what = roll-NamedStmtKind layer })

-- what shows P of every statement, Q of every arm and R of every branch
pub record Cases (P : NamedStmt → Type 0) (Q : NamedArm → Type 0) (R : NamedBranch → Type 0) : Type 0 where
  pub declare : (place : Place) (k : ℕ) (value : Option NamedExpr) → P (stmt place (NamedStmtKind-F.Declare k value))
  pub constant : (place : Place) (k : ℕ) → P (stmt place (NamedStmtKind-F.Const k))
  pub assign : (place : Place) (target : NamedTarget) (e : NamedExpr) → P (stmt place (NamedStmtKind-F.Assign target e))
  pub call : (place name : Place) (f : ℕ) (inputs : List NamedExpr) (outputs : List NamedPath) → P (stmt place (NamedStmtKind-F.Call name f inputs outputs))
  pub await : (place : Place) (e : NamedExpr) → P (stmt place (NamedStmtKind-F.Await e))
  pub run : (place : Place) (target : Option NamedPath) (name : Place) (a : ℕ) (inputs : List NamedExpr) (outputs : List NamedPath) →
      P (stmt place (NamedStmtKind-F.Run target name a inputs outputs))
  pub branching : (place : Place) (arms : List NamedArm) (other : List NamedStmt) → All Q arms → All P other →
      P (stmt place (NamedStmtKind-F.If arms other))
  pub cobegin : (place : Place) (branches : List NamedBranch) → All R branches → P (stmt place (NamedStmtKind-F.Cobegin branches))
  pub guarded : (place : Place) (guard : Guard) (e : NamedExpr) (body : List NamedStmt) → All P body → P (stmt place (NamedStmtKind-F.When guard e body))
  pub repeat : (place : Place) (body : List NamedStmt) → All P body → P (stmt place (NamedStmtKind-F.Repeat body))
  pub until : (place : Place) (body : List NamedStmt) (e : NamedExpr) → All P body → P (stmt place (NamedStmtKind-F.Until body e))
  pub while : (place : Place) (e : NamedExpr) (body : List NamedStmt) → All P body → P (stmt place (NamedStmtKind-F.While e body))
  pub returns : (place : Place) (e : Option NamedExpr) → P (stmt place (NamedStmtKind-F.Return e))
  pub arm : (test : NamedExpr) (body : List NamedStmt) → All P body → Q (roll-NamedArm (record { test = test; body = body }))
  pub branch : (weak : Bool) (body : List NamedStmt) → All P body → R (roll-NamedBranch (record { weak = weak; body = body }))

module _ (P : NamedStmt → Type 0) (Q : NamedArm → Type 0) (R : NamedBranch → Type 0) (cases : Cases P Q R) where
  abbrev OfKind : NamedStmtKind → Type 0
  OfKind kind = (place : Place) → P (roll-NamedStmt (record { place = place; what = kind }))

  abbrev Shown : Type 0
  Shown = NamedStmtKind-F ((kind : NamedStmtKind) × OfKind kind) ((arm : NamedArm) × Q arm) ((branch : NamedBranch) × R branch) ((s : NamedStmt) × P s)

  abbrev plain : Shown → NamedStmtKind-F NamedStmtKind NamedArm NamedBranch NamedStmt
  plain = map-NamedStmtKind ((kind : NamedStmtKind) × OfKind kind) ((arm : NamedArm) × Q arm) ((branch : NamedBranch) × R branch) ((s : NamedStmt) × P s)
      NamedStmtKind NamedArm NamedBranch NamedStmt (λ e. e.0) (λ e. e.0) (λ e. e.0) (λ e. e.0)

  by_kind : (place : Place) (shown : Shown) → P (stmt place (plain shown))
  by_kind place (NamedStmtKind-F.Declare k value) = cases.declare place k value
  by_kind place (NamedStmtKind-F.Const k) = cases.constant place k
  by_kind place (NamedStmtKind-F.Assign target e) = cases.assign place target e
  by_kind place (NamedStmtKind-F.Call name f inputs outputs) = cases.call place name f inputs outputs
  by_kind place (NamedStmtKind-F.Await e) = cases.await place e
  by_kind place (NamedStmtKind-F.Run target name a inputs outputs) = cases.run place target name a inputs outputs
  by_kind place (NamedStmtKind-F.If arms other) = cases.branching place _ _ (each_such Q arms) (each_such P other)
  by_kind place (NamedStmtKind-F.Cobegin branches) = cases.cobegin place _ (each_such R branches)
  by_kind place (NamedStmtKind-F.When guard e body) = cases.guarded place guard e _ (each_such P body)
  by_kind place (NamedStmtKind-F.Repeat body) = cases.repeat place _ (each_such P body)
  by_kind place (NamedStmtKind-F.Until body e) = cases.until place _ e (each_such P body)
  by_kind place (NamedStmtKind-F.While e body) = cases.while place e _ (each_such P body)
  by_kind place (NamedStmtKind-F.Return e) = cases.returns place e

  -- every statement has P where the cases show it
  pub induct : (s : NamedStmt) → P s
  induct =
      ind-NamedStmt OfKind Q R P
      (λ x y is place. subst (λ layer. P (stmt place layer)) is (by_kind place y))
      (λ x y is. subst (λ layer. Q (roll-NamedArm layer)) is (cases.arm y.test _ (each_such P y.body)))
      (λ x y is. subst (λ layer. R (roll-NamedBranch layer)) is (cases.branch y.weak _ (each_such P y.body)))
      (λ x y is. subst (λ layer. P (roll-NamedStmt layer)) is (y.what.1 y.place))

  -- every arm Q
  pub induct_arm : (arm : NamedArm) → Q arm
  induct_arm =
      ind-NamedArm OfKind Q R P
      (λ x y is place. subst (λ layer. P (stmt place layer)) is (by_kind place y))
      (λ x y is. subst (λ layer. Q (roll-NamedArm layer)) is (cases.arm y.test _ (each_such P y.body)))
      (λ x y is. subst (λ layer. R (roll-NamedBranch layer)) is (cases.branch y.weak _ (each_such P y.body)))
      (λ x y is. subst (λ layer. P (roll-NamedStmt layer)) is (y.what.1 y.place))

  -- and every branch R
  pub induct_branch : (branch : NamedBranch) → R branch
  induct_branch =
      ind-NamedBranch OfKind Q R P
      (λ x y is place. subst (λ layer. P (stmt place layer)) is (by_kind place y))
      (λ x y is. subst (λ layer. Q (roll-NamedArm layer)) is (cases.arm y.test _ (each_such P y.body)))
      (λ x y is. subst (λ layer. R (roll-NamedBranch layer)) is (cases.branch y.weak _ (each_such P y.body)))
      (λ x y is. subst (λ layer. P (roll-NamedStmt layer)) is (y.what.1 y.place))
