-- Raw statements: what the map of places makes of each layer, and induction.
use Rattle.std.proofs.Common.{◌≡◌, Bool, List, map, refl, ap, subst, sym, ◌∙◌}
use Rattle.std.specs.Prelude.{All, Option, option_map}
use Rattle.bl_tree.specs.declared.place.Place.{Place}
use Rattle.bl_tree.specs.declared.tree.Guard.{Guard}
use Rattle.bl_parse_tree.specs.declared.expr.RawExpr.{RawExpr}
use Rattle.bl_parse_tree.specs.declared.expr.RawTarget.{RawTarget}
use Rattle.bl_parse_tree.specs.declared.name.Name.{Name}
use Rattle.bl_parse_tree.specs.declared.stmt.RawArm.{RawArm, fold-RawArm, fold-roll-RawArm, roll-RawArm}
use Rattle.bl_parse_tree.specs.declared.stmt.RawBranch.{RawBranch, fold-RawBranch, fold-roll-RawBranch, roll-RawBranch}
use Rattle.bl_parse_tree.specs.declared.stmt.RawConstant.{RawConstant}
use Rattle.bl_parse_tree.specs.declared.stmt.RawPath.{RawPath}
use Rattle.bl_parse_tree.specs.declared.stmt.RawStmt.{RawStmt, fold-roll-RawStmt, ind-RawStmt, roll-RawStmt}
use Rattle.bl_parse_tree.specs.declared.stmt.RawStmtKind.{RawStmtKind, fold-RawStmtKind, fold-roll-RawStmtKind, roll-RawStmtKind}
use Rattle.bl_parse_tree.specs.declared.stmt.RawStmtKind.TheFolds.{map-RawStmtKind}
use Rattle.bl_parse_tree.specs.declared.stmt.RawStmtKind.TheOpen.{RawStmtKind-F}
use Rattle.bl_parse_tree.specs.declared.stmt.RawStmtKind.TheVariants.{rolls-Var, rolls-Let, rolls-Const, rolls-Assign, rolls-Call, rolls-Await, rolls-Run}
use Rattle.bl_parse_tree.specs.declared.stmt.RawStmtKind.TheVariants.{rolls-If, rolls-Cobegin, rolls-When, rolls-Repeat, rolls-Until, rolls-While, rolls-Return}
use Rattle.bl_parse_tree.specs.declared.types.RawType.{RawType}
use Rattle.bl_tree.proofs.StmtInduction.{each_such}
use Rattle.bl_joined.specs.Trees.{placed_action, placed_arm, placed_branch, placed_constant, placed_expr, placed_name, placed_path, placed_stmt}
use Rattle.bl_joined.specs.Trees.{placed_stmt_layer, placed_target, placed_type}

-- ---- the map of places at each layer

abbrev pub Layer : Type 0
Layer = RawStmtKind-F RawStmtKind RawArm RawBranch RawStmt

module _ (f : Place → Place) where
  -- what a statement does, with all places mapped
  abbrev pub done : RawStmtKind → RawStmtKind
  done = fold-RawStmtKind RawStmtKind RawArm RawBranch RawStmt (placed_action f) (placed_arm f) placed_branch (placed_stmt_layer f)

  -- an arm with all places mapped
  abbrev pub armed : RawArm → RawArm
  armed = fold-RawArm RawStmtKind RawArm RawBranch RawStmt (placed_action f) (placed_arm f) placed_branch (placed_stmt_layer f)

  -- a branch with all places mapped
  abbrev pub branched : RawBranch → RawBranch
  branched = fold-RawBranch RawStmtKind RawArm RawBranch RawStmt (placed_action f) (placed_arm f) placed_branch (placed_stmt_layer f)

  -- a layer with all places mapped
  abbrev pub done_layer : Layer → Layer
  done_layer (RawStmtKind-F.Var name ty value) =
      RawStmtKind-F.Var (placed_name f name) (option_map (placed_type f) ty) (option_map (placed_expr f) value)
  done_layer (RawStmtKind-F.Let name ty value) = RawStmtKind-F.Let (placed_name f name) (option_map (placed_type f) ty) (placed_expr f value)
  done_layer (RawStmtKind-F.Const constant) = RawStmtKind-F.Const (placed_constant f constant)
  done_layer (RawStmtKind-F.Assign target e) = RawStmtKind-F.Assign (placed_target f target) (placed_expr f e)
  done_layer (RawStmtKind-F.Call name inputs outputs) =
      RawStmtKind-F.Call (placed_name f name) (map (placed_expr f) inputs) (map (placed_path f) outputs)
  done_layer (RawStmtKind-F.Await e) = RawStmtKind-F.Await (placed_expr f e)
  done_layer (RawStmtKind-F.Run target name inputs outputs) =
      RawStmtKind-F.Run (option_map (placed_path f) target) (placed_name f name) (map (placed_expr f) inputs) (map (placed_path f) outputs)
  done_layer (RawStmtKind-F.If arms other) = RawStmtKind-F.If (map armed arms) (map (placed_stmt f) other)
  done_layer (RawStmtKind-F.Cobegin branches) = RawStmtKind-F.Cobegin (map branched branches)
  done_layer (RawStmtKind-F.When guard e body) = RawStmtKind-F.When guard (placed_expr f e) (map (placed_stmt f) body)
  done_layer (RawStmtKind-F.Repeat body) = RawStmtKind-F.Repeat (map (placed_stmt f) body)
  done_layer (RawStmtKind-F.Until body e) = RawStmtKind-F.Until (map (placed_stmt f) body) (placed_expr f e)
  done_layer (RawStmtKind-F.While e body) = RawStmtKind-F.While (placed_expr f e) (map (placed_stmt f) body)
  done_layer (RawStmtKind-F.Return e) = RawStmtKind-F.Return (option_map (placed_expr f) e)

  pub done_is : (layer : Layer) → done (roll-RawStmtKind layer) ≡ roll-RawStmtKind (done_layer layer)
  done_is (RawStmtKind-F.Var name ty value) = rw fold-roll-RawStmtKind (sym (rolls-Var _ _ _))
  done_is (RawStmtKind-F.Let name ty value) = rw fold-roll-RawStmtKind (sym (rolls-Let _ _ _))
  done_is (RawStmtKind-F.Const constant) = rw fold-roll-RawStmtKind (sym (rolls-Const _))
  done_is (RawStmtKind-F.Assign target e) = rw fold-roll-RawStmtKind (sym (rolls-Assign _ _))
  done_is (RawStmtKind-F.Call name inputs outputs) = rw fold-roll-RawStmtKind (sym (rolls-Call _ _ _))
  done_is (RawStmtKind-F.Await e) = rw fold-roll-RawStmtKind (sym (rolls-Await _))
  done_is (RawStmtKind-F.Run target name inputs outputs) = rw fold-roll-RawStmtKind (sym (rolls-Run _ _ _ _))
  done_is (RawStmtKind-F.If arms other) = rw fold-roll-RawStmtKind (sym (rolls-If _ _))
  done_is (RawStmtKind-F.Cobegin branches) = rw fold-roll-RawStmtKind (sym (rolls-Cobegin _))
  done_is (RawStmtKind-F.When guard e body) = rw fold-roll-RawStmtKind (sym (rolls-When _ _ _))
  done_is (RawStmtKind-F.Repeat body) = rw fold-roll-RawStmtKind (sym (rolls-Repeat _))
  done_is (RawStmtKind-F.Until body e) = rw fold-roll-RawStmtKind (sym (rolls-Until _ _))
  done_is (RawStmtKind-F.While e body) = rw fold-roll-RawStmtKind (sym (rolls-While _ _))
  done_is (RawStmtKind-F.Return e) = rw fold-roll-RawStmtKind (sym (rolls-Return _))

  pub stmt_is : (place : Place) (what : RawStmtKind) →
      placed_stmt f (roll-RawStmt (record { place = place; what = what })) ≡ roll-RawStmt (record { place = f place; what = done what })
  stmt_is place what = rw fold-roll-RawStmt refl

  pub arm_is : (test : RawExpr) (body : List RawStmt) → armed (roll-RawArm (record { test = test; body = body }))
      ≡ roll-RawArm (record { test = placed_expr f test; body = map (placed_stmt f) body })
  arm_is test body = rw fold-roll-RawArm refl

  pub branch_is : (weak : Bool) (body : List RawStmt) → branched (roll-RawBranch (record { weak = weak; body = body }))
      ≡ roll-RawBranch (record { weak = weak; body = map (placed_stmt f) body })
  branch_is weak body = rw fold-roll-RawBranch refl

-- ---- induction

-- what shows facts of all parts of raw statements
pub record Cases (K : RawStmtKind → Type 0) (A : RawArm → Type 0) (B : RawBranch → Type 0) (S : RawStmt → Type 0) : Type 0 where
  pub var : (name : Name) (ty : Option RawType) (value : Option RawExpr) → K (roll-RawStmtKind (RawStmtKind-F.Var name ty value))
  pub fixed : (name : Name) (ty : Option RawType) (value : RawExpr) → K (roll-RawStmtKind (RawStmtKind-F.Let name ty value))
  pub constant : (constant : RawConstant) → K (roll-RawStmtKind (RawStmtKind-F.Const constant))
  pub assign : (target : RawTarget) (e : RawExpr) → K (roll-RawStmtKind (RawStmtKind-F.Assign target e))
  pub call : (callee : Name) (inputs : List RawExpr) (outputs : List RawPath) →
      K (roll-RawStmtKind (RawStmtKind-F.Call callee inputs outputs))
  pub await : (e : RawExpr) → K (roll-RawStmtKind (RawStmtKind-F.Await e))
  pub run : (target : Option RawPath) (callee : Name) (inputs : List RawExpr) (outputs : List RawPath) →
      K (roll-RawStmtKind (RawStmtKind-F.Run target callee inputs outputs))
  pub branching : (arms : List RawArm) (other : List RawStmt) → All A arms → All S other → K (roll-RawStmtKind (RawStmtKind-F.If arms other))
  pub cobegin : (branches : List RawBranch) → All B branches → K (roll-RawStmtKind (RawStmtKind-F.Cobegin branches))
  pub guarded : (guard : Guard) (e : RawExpr) (body : List RawStmt) → All S body → K (roll-RawStmtKind (RawStmtKind-F.When guard e body))
  pub repeat : (body : List RawStmt) → All S body → K (roll-RawStmtKind (RawStmtKind-F.Repeat body))
  pub until : (body : List RawStmt) (e : RawExpr) → All S body → K (roll-RawStmtKind (RawStmtKind-F.Until body e))
  pub while : (e : RawExpr) (body : List RawStmt) → All S body → K (roll-RawStmtKind (RawStmtKind-F.While e body))
  pub returns : (e : Option RawExpr) → K (roll-RawStmtKind (RawStmtKind-F.Return e))
  pub arm : (test : RawExpr) (body : List RawStmt) → All S body → A (roll-RawArm (record { test = test; body = body }))
  pub branch : (weak : Bool) (body : List RawStmt) → All S body → B (roll-RawBranch (record { weak = weak; body = body }))
  pub stmt : (place : Place) (what : RawStmtKind) → K what → S (roll-RawStmt (record { place = place; what = what }))

module _ (K : RawStmtKind → Type 0) (A : RawArm → Type 0) (B : RawBranch → Type 0) (S : RawStmt → Type 0) (cases : Cases K A B S) where
  abbrev Shown : Type 0
  Shown = RawStmtKind-F ((kind : RawStmtKind) × K kind) ((arm : RawArm) × A arm) ((branch : RawBranch) × B branch) ((s : RawStmt) × S s)

  abbrev plain : Shown → Layer
  plain = map-RawStmtKind ((kind : RawStmtKind) × K kind) ((arm : RawArm) × A arm) ((branch : RawBranch) × B branch) ((s : RawStmt) × S s)
      RawStmtKind RawArm RawBranch RawStmt (λ e. e.0) (λ e. e.0) (λ e. e.0) (λ e. e.0)

  by_kind : (shown : Shown) → K (roll-RawStmtKind (plain shown))
  by_kind (RawStmtKind-F.Var name ty value) = cases.var name ty value
  by_kind (RawStmtKind-F.Let name ty value) = cases.fixed name ty value
  by_kind (RawStmtKind-F.Const constant) = cases.constant constant
  by_kind (RawStmtKind-F.Assign target e) = cases.assign target e
  by_kind (RawStmtKind-F.Call callee inputs outputs) = cases.call callee inputs outputs
  by_kind (RawStmtKind-F.Await e) = cases.await e
  by_kind (RawStmtKind-F.Run target callee inputs outputs) = cases.run target callee inputs outputs
  by_kind (RawStmtKind-F.If arms other) = cases.branching _ _ (each_such A arms) (each_such S other)
  by_kind (RawStmtKind-F.Cobegin branches) = cases.cobegin _ (each_such B branches)
  by_kind (RawStmtKind-F.When guard e body) = cases.guarded guard e _ (each_such S body)
  by_kind (RawStmtKind-F.Repeat body) = cases.repeat _ (each_such S body)
  by_kind (RawStmtKind-F.Until body e) = cases.until _ e (each_such S body)
  by_kind (RawStmtKind-F.While e body) = cases.while e _ (each_such S body)
  by_kind (RawStmtKind-F.Return e) = cases.returns e

  -- every raw statement has what the cases show
  pub induct_stmt : (s : RawStmt) → S s
  induct_stmt =
      ind-RawStmt K A B S
      (λ x y is. subst (λ layer. K (roll-RawStmtKind layer)) is (by_kind y))
      (λ x y is. subst (λ layer. A (roll-RawArm layer)) is (cases.arm y.test _ (each_such S y.body)))
      (λ x y is. subst (λ layer. B (roll-RawBranch layer)) is (cases.branch y.weak _ (each_such S y.body)))
      (λ x y is. subst (λ layer. S (roll-RawStmt layer)) is (cases.stmt y.place y.what.0 y.what.1))
