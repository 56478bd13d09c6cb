-- Induction over raw statements, arms and branches: one case for each kind, with what is known of the parts inside.
use Rattle.std.proofs.Common.{Bool, List, subst}
use Rattle.std.specs.Prelude.{All, Option}
use Rattle.bl_tree.specs.declared.place.Place.{Place}
use Rattle.bl_tree.specs.declared.tree.Guard.{Guard}
use Rattle.bl_parse_tree.specs.declared.expr.RawExpr.{RawExpr}
use Rattle.bl_parse_tree.specs.declared.expr.RawTarget.{RawTarget}
use Rattle.bl_parse_tree.specs.declared.name.Name.{Name}
use Rattle.bl_parse_tree.specs.declared.stmt.RawArm.{RawArm, ind-RawArm, roll-RawArm}
use Rattle.bl_parse_tree.specs.declared.stmt.RawBranch.{RawBranch, ind-RawBranch, roll-RawBranch}
use Rattle.bl_parse_tree.specs.declared.stmt.RawConstant.{RawConstant}
use Rattle.bl_parse_tree.specs.declared.stmt.RawPath.{RawPath}
use Rattle.bl_parse_tree.specs.declared.stmt.RawStmt.{RawStmt, ind-RawStmt, roll-RawStmt}
use Rattle.bl_parse_tree.specs.declared.stmt.RawStmtKind.{RawStmtKind, roll-RawStmtKind}
use Rattle.bl_parse_tree.specs.declared.stmt.RawStmtKind.TheFolds.{map-RawStmtKind}
use Rattle.bl_parse_tree.specs.declared.stmt.RawStmtKind.TheOpen.{RawStmtKind-F}
use Rattle.bl_parse_tree.specs.declared.types.RawType.{RawType}
use Rattle.bl_tree.proofs.StmtInduction.{each_such}

-- a statement by its place and its kind's parts
abbrev pub stmt : Place → RawStmtKind-F RawStmtKind RawArm RawBranch RawStmt → RawStmt
stmt place layer = roll-RawStmt (record { place = place; what = roll-RawStmtKind layer })

-- what shows P of every statement, Q of every arm and R of every branch
pub record Cases (P : RawStmt → Type 0) (Q : RawArm → Type 0) (R : RawBranch → Type 0) : Type 0 where
  pub var : (place : Place) (name : Name) (ty : Option RawType) (value : Option RawExpr) → P (stmt place (RawStmtKind-F.Var name ty value))
  pub fixed : (place : Place) (name : Name) (ty : Option RawType) (value : RawExpr) → P (stmt place (RawStmtKind-F.Let name ty value))
  pub constant : (place : Place) (constant : RawConstant) → P (stmt place (RawStmtKind-F.Const constant))
  pub assign : (place : Place) (target : RawTarget) (e : RawExpr) → P (stmt place (RawStmtKind-F.Assign target e))
  pub call : (place : Place) (f : Name) (inputs : List RawExpr) (outputs : List RawPath) → P (stmt place (RawStmtKind-F.Call f inputs outputs))
  pub await : (place : Place) (e : RawExpr) → P (stmt place (RawStmtKind-F.Await e))
  pub run : (place : Place) (target : Option RawPath) (a : Name) (inputs : List RawExpr) (outputs : List RawPath)
      → P (stmt place (RawStmtKind-F.Run target a inputs outputs))
  pub branching : (place : Place) (arms : List RawArm) (other : List RawStmt) → All Q arms → All P other → P (stmt place (RawStmtKind-F.If arms other))
  pub cobegin : (place : Place) (branches : List RawBranch) → All R branches → P (stmt place (RawStmtKind-F.Cobegin branches))
  pub guarded : (place : Place) (guard : Guard) (e : RawExpr) (body : List RawStmt) → All P body → P (stmt place (RawStmtKind-F.When guard e body))
  pub repeat : (place : Place) (body : List RawStmt) → All P body → P (stmt place (RawStmtKind-F.Repeat body))
  pub until : (place : Place) (body : List RawStmt) (e : RawExpr) → All P body → P (stmt place (RawStmtKind-F.Until body e))
  pub while : (place : Place) (e : RawExpr) (body : List RawStmt) → All P body → P (stmt place (RawStmtKind-F.While e body))
  pub returns : (place : Place) (e : Option RawExpr) → P (stmt place (RawStmtKind-F.Return e))
  pub arm : (test : RawExpr) (body : List RawStmt) → All P body → Q (roll-RawArm (record { test = test; body = body }))
  pub branch : (weak : Bool) (body : List RawStmt) → All P body → R (roll-RawBranch (record { weak = weak; body = body }))

module _ (P : RawStmt → Type 0) (Q : RawArm → Type 0) (R : RawBranch → Type 0) (cases : Cases P Q R) where
  abbrev OfKind : RawStmtKind → Type 0
  OfKind kind = (place : Place) → P (roll-RawStmt (record { place = place; what = kind }))

  abbrev Shown : Type 0
  Shown = RawStmtKind-F ((kind : RawStmtKind) × OfKind kind) ((arm : RawArm) × Q arm) ((branch : RawBranch) × R branch) ((s : RawStmt) × P s)

  abbrev plain : Shown → RawStmtKind-F RawStmtKind RawArm RawBranch RawStmt
  plain = map-RawStmtKind ((kind : RawStmtKind) × OfKind kind) ((arm : RawArm) × Q arm) ((branch : RawBranch) × R branch) ((s : RawStmt) × P s)
      RawStmtKind RawArm RawBranch RawStmt (λ e. e.0) (λ e. e.0) (λ e. e.0) (λ e. e.0)

  by_kind : (place : Place) (shown : Shown) → P (stmt place (plain shown))
  by_kind place (RawStmtKind-F.Var name ty value) = cases.var place name ty value
  by_kind place (RawStmtKind-F.Let name ty value) = cases.fixed place name ty value
  by_kind place (RawStmtKind-F.Const constant) = cases.constant place constant
  by_kind place (RawStmtKind-F.Assign target e) = cases.assign place target e
  by_kind place (RawStmtKind-F.Call f inputs outputs) = cases.call place f inputs outputs
  by_kind place (RawStmtKind-F.Await e) = cases.await place e
  by_kind place (RawStmtKind-F.Run target a inputs outputs) = cases.run place target a inputs outputs
  by_kind place (RawStmtKind-F.If arms other) = cases.branching place _ _ (each_such Q arms) (each_such P other)
  by_kind place (RawStmtKind-F.Cobegin branches) = cases.cobegin place _ (each_such R branches)
  by_kind place (RawStmtKind-F.When guard e body) = cases.guarded place guard e _ (each_such P body)
  by_kind place (RawStmtKind-F.Repeat body) = cases.repeat place _ (each_such P body)
  by_kind place (RawStmtKind-F.Until body e) = cases.until place _ e (each_such P body)
  by_kind place (RawStmtKind-F.While e body) = cases.while place e _ (each_such P body)
  by_kind place (RawStmtKind-F.Return e) = cases.returns place e

  -- every statement has P where the cases show it
  pub induct : (s : RawStmt) → P s
  induct =
      ind-RawStmt OfKind Q R P
      (λ x y is place. subst (λ layer. P (stmt place layer)) is (by_kind place y))
      (λ x y is. subst (λ layer. Q (roll-RawArm layer)) is (cases.arm y.test _ (each_such P y.body)))
      (λ x y is. subst (λ layer. R (roll-RawBranch layer)) is (cases.branch y.weak _ (each_such P y.body)))
      (λ x y is. subst (λ layer. P (roll-RawStmt layer)) is (y.what.1 y.place))

  -- every arm Q
  pub induct_arm : (arm : RawArm) → Q arm
  induct_arm =
      ind-RawArm OfKind Q R P
      (λ x y is place. subst (λ layer. P (stmt place layer)) is (by_kind place y))
      (λ x y is. subst (λ layer. Q (roll-RawArm layer)) is (cases.arm y.test _ (each_such P y.body)))
      (λ x y is. subst (λ layer. R (roll-RawBranch layer)) is (cases.branch y.weak _ (each_such P y.body)))
      (λ x y is. subst (λ layer. P (roll-RawStmt layer)) is (y.what.1 y.place))

  -- and every branch R
  pub induct_branch : (branch : RawBranch) → R branch
  induct_branch =
      ind-RawBranch OfKind Q R P
      (λ x y is place. subst (λ layer. P (stmt place layer)) is (by_kind place y))
      (λ x y is. subst (λ layer. Q (roll-RawArm layer)) is (cases.arm y.test _ (each_such P y.body)))
      (λ x y is. subst (λ layer. R (roll-RawBranch layer)) is (cases.branch y.weak _ (each_such P y.body)))
      (λ x y is. subst (λ layer. P (roll-RawStmt layer)) is (y.what.1 y.place))
