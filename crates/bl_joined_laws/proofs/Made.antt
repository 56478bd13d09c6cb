-- Mapping all places of a tree, at each form that a tree has.
use Rattle.std.proofs.Common.{◌≡◌, ℕ, Bool, List, map, refl, ap, sym, ◌∙◌}
use Rattle.std.specs.Prelude.{Option, option_map}
use Rattle.bl_tree.specs.declared.place.Place.{Place}
use Rattle.bl_tree.specs.declared.scalar.Op.{Op}
use Rattle.bl_tree.specs.declared.scalar.Scalar.{Scalar as ScalarType}
use Rattle.bl_tree.specs.declared.tree.Guard.{Guard}
use Rattle.bl_parse_tree.specs.declared.expr.RawExpr.{RawExpr, fold-roll-RawExpr}
use Rattle.bl_parse_tree.specs.declared.expr.RawExprKind.{RawExprKind, fold-RawExprKind, fold-roll-RawExprKind}
use Rattle.bl_parse_tree.specs.declared.expr.RawExprKind.TheVariants.{rolls-Number, rolls-Truth, rolls-Read, rolls-Prev, rolls-One, rolls-Two, rolls-Cast, rolls-Call}
use Rattle.bl_parse_tree.specs.declared.expr.RawExprKind as kind
use Rattle.bl_parse_tree.specs.declared.expr.RawPart.{RawPart, fold-RawPart, fold-roll-RawPart}
use Rattle.bl_parse_tree.specs.declared.expr.RawPart as step
use Rattle.bl_parse_tree.specs.declared.expr.RawPart.TheVariants.{rolls-Field, rolls-Index}
use Rattle.bl_parse_tree.specs.declared.expr.RawTarget.{RawTarget, fold-roll-RawTarget}
use Rattle.bl_parse_tree.specs.declared.name.Name.{Name}
use Rattle.bl_parse_tree.specs.declared.stmt.RawArm.{RawArm, fold-RawArm, fold-roll-RawArm, roll-RawArm}
use Rattle.bl_parse_tree.specs.declared.stmt.RawBranch.{RawBranch, fold-RawBranch, fold-roll-RawBranch, roll-RawBranch}
use Rattle.bl_parse_tree.specs.declared.stmt.RawConstant.{RawConstant}
use Rattle.bl_parse_tree.specs.declared.stmt.RawPath.{RawPath}
use Rattle.bl_parse_tree.specs.declared.stmt.RawStmt.{RawStmt, fold-roll-RawStmt, roll-RawStmt}
use Rattle.bl_parse_tree.specs.declared.stmt.RawStmtKind.{RawStmtKind, fold-RawStmtKind, fold-roll-RawStmtKind}
use Rattle.bl_parse_tree.specs.declared.stmt.RawStmtKind as action
use Rattle.bl_parse_tree.specs.declared.stmt.RawStmtKind.TheVariants.{rolls-Var, rolls-Let, rolls-Const, rolls-Assign, rolls-Call as rolls-CallStmt}
use Rattle.bl_parse_tree.specs.declared.stmt.RawStmtKind.TheVariants.{rolls-Await, rolls-Run, rolls-If, rolls-Cobegin, rolls-When, rolls-Repeat, rolls-Until}
use Rattle.bl_parse_tree.specs.declared.stmt.RawStmtKind.TheVariants.{rolls-While, rolls-Return}
use Rattle.bl_parse_tree.specs.declared.types.RawLength.{RawLength}
use Rattle.bl_parse_tree.specs.declared.types.RawType.{RawType, fold-roll-RawType}
use Rattle.bl_parse_tree.specs.declared.types.RawType as form
use Rattle.bl_parse_tree.specs.declared.types.RawType.TheVariants.{rolls-Scalar, rolls-Struct, rolls-Array}
use Rattle.bl_parse.specs.Expressions.{expr, target}
use Rattle.bl_joined.specs.Trees.{placed_name, placed_length, placed_type, placed_kind, placed_part, placed_expr_layer, placed_target_layer, placed_expr}
use Rattle.bl_joined.specs.Trees.{placed_target, placed_path, placed_constant, placed_action, placed_arm, placed_branch, placed_stmt_layer, placed_stmt}

module _ (f : Place → Place) where
  -- what an expression says, with all places mapped
  abbrev pub said : RawExprKind → RawExprKind
  said = fold-RawExprKind RawExprKind RawPart RawExpr RawTarget (placed_kind f) (placed_part f) (placed_expr_layer f) (placed_target_layer f)

  -- a part of a place in memory, with all places mapped
  abbrev pub stepped : RawPart → RawPart
  stepped = fold-RawPart RawExprKind RawPart RawExpr RawTarget (placed_kind f) (placed_part f) (placed_expr_layer f) (placed_target_layer f)

  -- what a statement does, with all places mapped
  abbrev pub done : RawStmtKind → RawStmtKind
  done = fold-RawStmtKind RawStmtKind RawArm RawBranch RawStmt (placed_action f) (placed_arm f) placed_branch (placed_stmt_layer f)

  -- an arm with all places mapped
  abbrev pub armed : RawArm → RawArm
  armed = fold-RawArm RawStmtKind RawArm RawBranch RawStmt (placed_action f) (placed_arm f) placed_branch (placed_stmt_layer f)

  -- a branch with all places mapped
  abbrev pub branched : RawBranch → RawBranch
  branched = fold-RawBranch RawStmtKind RawArm RawBranch RawStmt (placed_action f) (placed_arm f) placed_branch (placed_stmt_layer f)

  -- ---- types

  pub scalar_is : (s : ScalarType) → placed_type f (form.Scalar s) ≡ form.Scalar s
  scalar_is s = ap (placed_type f) (sym (rolls-Scalar s)) ∙ rw fold-roll-RawType refl

  pub struct_is : (n : Name) → placed_type f (form.Struct n) ≡ form.Struct (placed_name f n)
  struct_is n = ap (placed_type f) (sym (rolls-Struct n)) ∙ rw fold-roll-RawType refl

  pub array_is : (length : RawLength) (element : RawType) →
      placed_type f (form.Array length element) ≡ form.Array (placed_length f length) (placed_type f element)
  array_is length element = ap (placed_type f) (sym (rolls-Array length element)) ∙ rw fold-roll-RawType refl

  -- ---- expressions

  pub expr_is : (at : Place) (what : RawExprKind) → placed_expr f (expr at what) ≡ expr (f at) (said what)
  expr_is at what = rw fold-roll-RawExpr refl

  pub number_is : (minus : Bool) (n : ℕ) → said (kind.Number minus n) ≡ kind.Number minus n
  number_is minus n = ap said (sym (rolls-Number minus n)) ∙ rw fold-roll-RawExprKind refl

  pub truth_is : (b : Bool) → said (kind.Truth b) ≡ kind.Truth b
  truth_is b = ap said (sym (rolls-Truth b)) ∙ rw fold-roll-RawExprKind refl

  pub read_is : (from : RawTarget) → said (kind.Read from) ≡ kind.Read (placed_target f from)
  read_is from = ap said (sym (rolls-Read from)) ∙ rw fold-roll-RawExprKind refl

  pub before_is : (n : Name) → said (kind.Prev n) ≡ kind.Prev (placed_name f n)
  before_is n = ap said (sym (rolls-Prev n)) ∙ rw fold-roll-RawExprKind refl

  pub one_is : (op : Op) (a : RawExpr) → said (kind.One op a) ≡ kind.One op (placed_expr f a)
  one_is op a = ap said (sym (rolls-One op a)) ∙ rw fold-roll-RawExprKind refl

  pub two_is : (op : Op) (a b : RawExpr) → said (kind.Two op a b) ≡ kind.Two op (placed_expr f a) (placed_expr f b)
  two_is op a b = ap said (sym (rolls-Two op a b)) ∙ rw fold-roll-RawExprKind refl

  pub cast_is : (s : ScalarType) (a : RawExpr) → said (kind.Cast s a) ≡ kind.Cast s (placed_expr f a)
  cast_is s a = ap said (sym (rolls-Cast s a)) ∙ rw fold-roll-RawExprKind refl

  pub call_is : (n : Name) (inputs : List RawExpr) → said (kind.Call n inputs) ≡ kind.Call (placed_name f n) (map (placed_expr f) inputs)
  call_is n inputs = ap said (sym (rolls-Call n inputs)) ∙ rw fold-roll-RawExprKind refl

  pub target_is : (place : Place) (root : Name) (parts : List RawPart) →
      placed_target f (target place root parts) ≡ target (f place) (placed_name f root) (map stepped parts)
  target_is place root parts = rw fold-roll-RawTarget refl

  pub field_is : (n : Name) → stepped (step.Field n) ≡ step.Field (placed_name f n)
  field_is n = ap stepped (sym (rolls-Field n)) ∙ rw fold-roll-RawPart refl

  pub index_is : (e : RawExpr) → stepped (step.Index e) ≡ step.Index (placed_expr f e)
  index_is e = ap stepped (sym (rolls-Index e)) ∙ rw fold-roll-RawPart refl

  -- ---- statements

  pub stmt_is : (at : Place) (what : RawStmtKind) →
      placed_stmt f (roll-RawStmt (record { place = at; what = what })) ≡ roll-RawStmt (record { place = f at; what = done what })
  stmt_is at what = rw fold-roll-RawStmt refl

  pub var_is : (n : Name) (t : Option RawType) (value : Option RawExpr) →
      done (action.Var n t value) ≡ action.Var (placed_name f n) (option_map (placed_type f) t) (option_map (placed_expr f) value)
  var_is n t value = ap done (sym (rolls-Var n t value)) ∙ rw fold-roll-RawStmtKind refl

  pub let_is : (n : Name) (t : Option RawType) (value : RawExpr) →
      done (action.Let n t value) ≡ action.Let (placed_name f n) (option_map (placed_type f) t) (placed_expr f value)
  let_is n t value = ap done (sym (rolls-Let n t value)) ∙ rw fold-roll-RawStmtKind refl

  pub constant_is : (one : RawConstant) → done (action.Const one) ≡ action.Const (placed_constant f one)
  constant_is one = ap done (sym (rolls-Const one)) ∙ rw fold-roll-RawStmtKind refl

  pub assign_is : (to : RawTarget) (e : RawExpr) → done (action.Assign to e) ≡ action.Assign (placed_target f to) (placed_expr f e)
  assign_is to e = ap done (sym (rolls-Assign to e)) ∙ rw fold-roll-RawStmtKind refl

  pub call_stmt_is : (n : Name) (given : List RawExpr) (taken : List RawPath) →
      done (action.Call n given taken) ≡ action.Call (placed_name f n) (map (placed_expr f) given) (map (placed_path f) taken)
  call_stmt_is n given taken = ap done (sym (rolls-CallStmt n given taken)) ∙ rw fold-roll-RawStmtKind refl

  pub await_is : (e : RawExpr) → done (action.Await e) ≡ action.Await (placed_expr f e)
  await_is e = ap done (sym (rolls-Await e)) ∙ rw fold-roll-RawStmtKind refl

  pub run_is : (to : Option RawPath) (a : Name) (given : List RawExpr) (taken : List RawPath) → done (action.Run to a given taken)
      ≡ action.Run (option_map (placed_path f) to) (placed_name f a) (map (placed_expr f) given) (map (placed_path f) taken)
  run_is to a given taken = ap done (sym (rolls-Run to a given taken)) ∙ rw fold-roll-RawStmtKind refl

  pub if_is : (arms : List RawArm) (other : List RawStmt) → done (action.If arms other) ≡ action.If (map armed arms) (map (placed_stmt f) other)
  if_is arms other = ap done (sym (rolls-If arms other)) ∙ rw fold-roll-RawStmtKind refl

  pub cobegin_is : (branches : List RawBranch) → done (action.Cobegin branches) ≡ action.Cobegin (map branched branches)
  cobegin_is branches = ap done (sym (rolls-Cobegin branches)) ∙ rw fold-roll-RawStmtKind refl

  pub when_is : (guard : Guard) (e : RawExpr) (body : List RawStmt) →
      done (action.When guard e body) ≡ action.When guard (placed_expr f e) (map (placed_stmt f) body)
  when_is guard e body = ap done (sym (rolls-When guard e body)) ∙ rw fold-roll-RawStmtKind refl

  pub repeat_is : (body : List RawStmt) → done (action.Repeat body) ≡ action.Repeat (map (placed_stmt f) body)
  repeat_is body = ap done (sym (rolls-Repeat body)) ∙ rw fold-roll-RawStmtKind refl

  pub until_is : (body : List RawStmt) (e : RawExpr) → done (action.Until body e) ≡ action.Until (map (placed_stmt f) body) (placed_expr f e)
  until_is body e = ap done (sym (rolls-Until body e)) ∙ rw fold-roll-RawStmtKind refl

  pub while_is : (e : RawExpr) (body : List RawStmt) → done (action.While e body) ≡ action.While (placed_expr f e) (map (placed_stmt f) body)
  while_is e body = ap done (sym (rolls-While e body)) ∙ rw fold-roll-RawStmtKind refl

  pub return_is : (e : Option RawExpr) → done (action.Return e) ≡ action.Return (option_map (placed_expr f) e)
  return_is e = ap done (sym (rolls-Return e)) ∙ rw fold-roll-RawStmtKind refl

  pub arm_is : (e : RawExpr) (body : List RawStmt) →
      armed (roll-RawArm (record { test = e; body = body })) ≡ roll-RawArm (record { test = placed_expr f e; body = map (placed_stmt f) body })
  arm_is e body = rw fold-roll-RawArm refl

  pub branch_is : (weak : Bool) (body : List RawStmt) →
      branched (roll-RawBranch (record { weak = weak; body = body })) ≡ roll-RawBranch (record { weak = weak; body = map (placed_stmt f) body })
  branch_is weak body = rw fold-roll-RawBranch refl
