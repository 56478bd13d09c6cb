-- What is made of a statement is nested no deeper, and declares and names no more.
use Rattle.std.proofs.Common.{◌≡◌, ℕ, Bool, true, false, List, ◌++◌, map, Option, Some, None, refl, ap, subst, sym, ◌∙◌}
use Rattle.std.specs.Prelude.{All, option_map, slice_get, if◌then◌else◌}
use Rattle.bl_tree.specs.declared.place.Place.{Place}
use Rattle.bl_tree.specs.declared.scalar.Scalar.{Scalar as ScalarType}
use Rattle.bl_tree.specs.declared.scalar.Scalar.TheVariants.{Bool as OfBool}
use Rattle.bl_tree.specs.declared.tree.Arm.{Arm, fold-Arm, fold-roll-Arm}
use Rattle.bl_tree.specs.declared.tree.Branch.{Branch, fold-Branch, fold-roll-Branch, roll-Branch}
use Rattle.bl_tree.specs.declared.tree.Expr.{Expr}
use Rattle.bl_tree.specs.declared.tree.Guard.{Guard}
use Rattle.bl_tree.specs.declared.tree.Path.{Path}
use Rattle.bl_tree.specs.declared.tree.Stmt.{Stmt, fold-roll-Stmt}
use Rattle.bl_tree.specs.declared.tree.StmtKind.{StmtKind, fold-StmtKind, fold_out-StmtKind, map-StmtKind, out-StmtKind}
use Rattle.bl_tree.specs.declared.tree.StmtKind.TheOpen.{StmtKind-F}
use Rattle.bl_tree.specs.declared.tree.StmtKind.TheVariants as what
use Rattle.bl_tree.specs.Apart.{Naming}
use Rattle.bl_tree.specs.Apart as names
use Rattle.bl_tree.specs.Depths.{Depth}
use Rattle.bl_tree.specs.Depths as depths
use Rattle.bl_tree.specs.Types.{scalar}
use Rattle.bl_names_tree.specs.declared.expr.NamedExpr.{NamedExpr}
use Rattle.bl_names_tree.specs.declared.item.NamedConstant.{NamedConstant}
use Rattle.bl_names_tree.specs.declared.item.NamedVar.{NamedVar}
use Rattle.bl_names_tree.specs.declared.stmt.NamedArm.{NamedArm, fold-roll-NamedArm, roll-NamedArm}
use Rattle.bl_names_tree.specs.declared.stmt.NamedBranch.{NamedBranch, fold-roll-NamedBranch, roll-NamedBranch}
use Rattle.bl_names_tree.specs.declared.stmt.NamedPath.{NamedPath}
use Rattle.bl_names_tree.specs.declared.stmt.NamedStmt.{NamedStmt, fold-roll-NamedStmt}
use Rattle.bl_names_tree.specs.declared.stmt.NamedStmtKind.{NamedStmtKind, fold-NamedStmtKind, fold-roll-NamedStmtKind, map-NamedStmtKind}
use Rattle.bl_names_tree.specs.declared.stmt.NamedStmtKind.TheOpen.{NamedStmtKind-F}
use Rattle.bl_names_laws.specs.Apart as named
use Rattle.bl_names_laws.specs.inner.Apart as apart
use Rattle.bl_names_laws.specs.Depths as nested
use Rattle.bl_names_laws.specs.inner.Depths as levels
use Rattle.bl_types.specs.declared.environment.Environment.{Environment}
use Rattle.bl_types.specs.declared.form.Found.{Found}
use Rattle.bl_types.specs.declared.form.Found.TheVariants as found
use Rattle.bl_types.specs.Declarations.{initial}
use Rattle.bl_types.specs.Expressions.{in_context, judged, params_of, targeted}
use Rattle.bl_types.specs.Statements.{Arguments, Block, StatementJudgement, arguments, arm_of, arm_walked, assign_made, branch_walked, condition, declare}
use Rattle.bl_types.specs.Statements.{if_complete, in_order, outputs_wanted, returned, run_made, run_target, stmt_made, type_found, walked_arm, walked_branch}
use Rattle.bl_types.specs.Statements.{walked_stmt}
use Rattle.bl_types_laws.proofs.NamedStmtInduction.{Cases, induct, stmt}
use Rattle.bl_types_laws.proofs.StmtLayers.{Layer, walked_by, walked_is}
use Rattle.bl_types_laws.proofs.Exprs.{context_in, inputs_in, targeted_in}
use Rattle.bl_types_laws.proofs.ShapeForms.{FoundIn}
use Rattle.bl_types_laws.proofs.NamedSizes.{inputs_size, named_size, target_size}
use Rattle.bl_types_laws.proofs.Opens.{ExprIn}
use Rattle.bl_types_laws.proofs.ShapePaths.{TargetIn, all_lent_in, initial_in, paths_size, run_target_in, size_of_target, taker_size}
use Rattle.bl_types_laws.proofs.ShapeParts.{Shape, ShapeIn, ShapeMost, Shapes, ShapesMost, block_shape, bodies_most, branches_shape, branching_most}
use Rattle.bl_types_laws.proofs.ShapeParts.{choice_most, choice_shape, declared_most, declared_shape, in_order_in, plain_most, plain_shape, shapes_of}
use Rattle.bl_types_laws.proofs.ShapeParts.{tested_most, tested_shape}
use Rattle.bl_types_laws.proofs.Sizes.{Size, SizeMost, beside, empty, size_all, size_beside, size_empty, size_first, size_of, size_of_path, size_second}

-- ---- typed statements

abbrev arm_depth : Arm → Depth
arm_depth = fold-Arm Depth Depth Depth Depth depths.stmt_kind_depth depths.arm_depth depths.branch_depth depths.stmt_layer_depth

abbrev branch_depth : Branch → Depth
branch_depth = fold-Branch Depth Depth Depth Depth depths.stmt_kind_depth depths.arm_depth depths.branch_depth depths.stmt_layer_depth

abbrev arm_naming : Arm → Naming
arm_naming = fold-Arm Naming Naming Naming Naming names.stmt_kind_naming names.arm_naming names.branch_naming names.stmt_layer_naming

abbrev branch_naming : Branch → Naming
branch_naming = fold-Branch Naming Naming Naming Naming names.stmt_kind_naming names.arm_naming names.branch_naming names.stmt_layer_naming

abbrev TypedLayer : Type 0
TypedLayer = StmtKind-F StmtKind Arm Branch Stmt

abbrev depth_kind : TypedLayer → Depth
depth_kind layer = depths.stmt_kind_depth
    (map-StmtKind StmtKind Arm Branch Stmt Depth Depth Depth Depth (fold-StmtKind Depth Depth Depth Depth depths.stmt_kind_depth depths.arm_depth
    depths.branch_depth depths.stmt_layer_depth) arm_depth branch_depth depths.depth_of layer)

abbrev naming_kind : TypedLayer → Naming
naming_kind layer = names.stmt_kind_naming
    (map-StmtKind StmtKind Arm Branch Stmt Naming Naming Naming Naming (fold-StmtKind Naming Naming Naming Naming names.stmt_kind_naming names.arm_naming
    names.branch_naming names.stmt_layer_naming) arm_naming branch_naming names.naming_of layer)

abbrev kind_shape : TypedLayer → Shape
kind_shape layer = record { depth = depth_kind layer; naming = naming_kind layer }

abbrev shape_of : Stmt → Shape
shape_of s = record { depth = depths.depth_of s; naming = names.naming_of s }

shape_is : (at : Place) (kind : StmtKind) (layer : TypedLayer) → out-StmtKind kind ≡ layer → shape_of (stmt_made at kind) ≡ kind_shape layer
shape_is at kind layer is =
    let depth_is : depths.depth_of (stmt_made at kind) ≡ depth_kind layer =
    rw fold-roll-Stmt (fold_out-StmtKind Depth Depth Depth Depth depths.stmt_kind_depth depths.arm_depth depths.branch_depth depths.stmt_layer_depth kind
    ∙ ap depth_kind is) in
    let naming_is : names.naming_of (stmt_made at kind) ≡ naming_kind layer =
    rw fold-roll-Stmt (fold_out-StmtKind Naming Naming Naming Naming names.stmt_kind_naming names.arm_naming names.branch_naming names.stmt_layer_naming kind
    ∙ ap naming_kind is) in
    λ i. record { depth = depth_is i; naming = naming_is i }

abbrev bodies : List Stmt → Shapes
bodies = shapes_of depths.depth_of names.naming_of

arm_shape_is : (test : Expr) (body : List Stmt) → record { depth = arm_depth (arm_of test body); naming = arm_naming (arm_of test body) }
    ≡ tested_shape (size_of test) (bodies body)
arm_shape_is test body =
    let depth_is : arm_depth (arm_of test body) ≡ (tested_shape (size_of test) (bodies body)).depth = rw fold-roll-Arm refl in
    let naming_is : arm_naming (arm_of test body) ≡ (tested_shape (size_of test) (bodies body)).naming = rw fold-roll-Arm refl in
    λ i. record { depth = depth_is i; naming = naming_is i }

branch_shape_is : (weak : Bool) (body : List Stmt) →
    record {
      depth = branch_depth (roll-Branch (record { weak = weak; body = body }));
      naming =
          branch_naming (roll-Branch (record { weak = weak; body = body }));
    } ≡ block_shape (bodies body)
branch_shape_is weak body =
    let depth_is : branch_depth (roll-Branch (record { weak = weak; body = body })) ≡ (block_shape (bodies body)).depth = rw fold-roll-Branch refl in
    let naming_is : branch_naming (roll-Branch (record { weak = weak; body = body })) ≡ (block_shape (bodies body)).naming = rw fold-roll-Branch refl in
    λ i. record { depth = depth_is i; naming = naming_is i }

-- ---- named statements

abbrev named_depth_kind : Layer → Depth
named_depth_kind layer = nested.stmt_kind_depth
    (map-NamedStmtKind NamedStmtKind NamedArm NamedBranch NamedStmt Depth Depth Depth Depth
    (fold-NamedStmtKind Depth Depth Depth Depth nested.stmt_kind_depth nested.arm_depth nested.branch_depth nested.stmt_layer_depth) levels.depth_of_arm
    levels.depth_of_branch nested.depth_of layer)

abbrev named_naming_kind : Layer → Naming
named_naming_kind layer = named.stmt_kind_naming
    (map-NamedStmtKind NamedStmtKind NamedArm NamedBranch NamedStmt Naming Naming Naming Naming
    (fold-NamedStmtKind Naming Naming Naming Naming named.stmt_kind_naming named.arm_naming named.branch_naming named.stmt_layer_naming) apart.naming_of_arm
    apart.naming_of_branch named.naming_of layer)

abbrev named_kind_shape : Layer → Shape
named_kind_shape layer = record { depth = named_depth_kind layer; naming = named_naming_kind layer }

abbrev named_shape : NamedStmt → Shape
named_shape s = record { depth = nested.depth_of s; naming = named.naming_of s }

named_shape_is : (place : Place) (layer : Layer) → named_shape (stmt place layer) ≡ named_kind_shape layer
named_shape_is place layer =
    let depth_is : nested.depth_of (stmt place layer) ≡ named_depth_kind layer = rw (fold-roll-NamedStmt, fold-roll-NamedStmtKind) refl in
    let naming_is : named.naming_of (stmt place layer) ≡ named_naming_kind layer = rw (fold-roll-NamedStmt, fold-roll-NamedStmtKind) refl in
    λ i. record { depth = depth_is i; naming = naming_is i }

abbrev named_bodies : List NamedStmt → Shapes
named_bodies = shapes_of nested.depth_of named.naming_of

-- ---- arguments beside paths

abbrev given_size : List Expr → List Path → Size
given_size inputs outputs = beside (size_all depths.expr_depth names.roots_in inputs) (size_all depths.path_depth names.roots_in_path outputs)

abbrev wanted_size : List NamedExpr → List NamedPath → Size
wanted_size inputs outputs = record { depth = (inputs_size inputs).depth; roots = (inputs_size inputs).roots ++ (paths_size outputs).roots }

arguments_in : (env : Environment) (at : Place) (f : ℕ) (inputs : List NamedExpr) (outputs : List NamedPath) →
    SizeMost (given_size (arguments env at f inputs outputs).inputs (arguments env at f inputs outputs).outputs) (wanted_size inputs outputs)
arguments_in env at f inputs outputs =
    size_first (size_all depths.expr_depth names.roots_in (arguments env at f inputs outputs).inputs)
    (size_all depths.path_depth names.roots_in_path (arguments env at f inputs outputs).outputs)
    (inputs_size inputs) (paths_size outputs) refl
    (inputs_in env inputs (params_of (slice_get env.units f))) (all_lent_in env outputs (outputs_wanted (slice_get env.units f)))

-- ---- one kind after another

-- what is made of a statement's kind is no more
abbrev KindIn : Place → Shape → Option StmtKind → Type 0
KindIn place shape made = ShapeIn (λ kind. depths.depth_of (stmt_made place kind)) (λ kind. names.naming_of (stmt_made place kind)) shape made

made_in : (place : Place) (shape : Shape) (made : Option StmtKind) → KindIn place shape made →
    ShapeIn depths.depth_of names.naming_of shape (option_map (stmt_made place) made)
made_in place shape (Some kind) most = most
made_in place shape None most = tt

kind_most : (place : Place) (kind : StmtKind) (layer : TypedLayer) (shape : Shape) → out-StmtKind kind ≡ layer → ShapeMost (kind_shape layer) shape →
    KindIn place shape (Some kind)
kind_most place kind layer shape is most = subst (λ one. ShapeMost one shape) (sym (shape_is place kind layer is)) most

module _ (place : Place) where
  declare_value : (k : ℕ) (value : Option Expr) (size : Size) → ExprIn size value →
      KindIn place (declared_shape k size) (option_map (λ e. what.Declare k (Some e)) value)
  declare_value k (Some e) size most = kind_most place (what.Declare k (Some e)) (StmtKind-F.Declare k (Some e)) (declared_shape k size)
      (what.outs-Declare k (Some e)) (declared_most k (size_of e) size most)
  declare_value k None size most = tt

  declare_in : (k : ℕ) (var : Option NamedVar) (e : Option NamedExpr) (env : Environment) →
      KindIn place (declared_shape k (record { depth = nested.optional_depth e; roots = named.optional_roots e })) (declare k var e env).made
  declare_in k (Some var) (Some e) env = declare_value k (initial env var.ty e).valued.value (named_size e) (initial_in env var.ty e)
  declare_in k (Some var) None env = kind_most place (what.Declare k None) (StmtKind-F.Declare k None) (declared_shape k empty) (what.outs-Declare k None)
      (declared_most k empty empty (size_empty empty))
  declare_in k None e env = tt

  assign_in : (leads : Found) (value : Option Expr) (target size : Size) → FoundIn target leads → ExprIn size value →
      KindIn place (plain_shape (beside target size)) (assign_made leads value)
  assign_in (found.Place path) (Some e) target size one other =
      kind_most place (what.Assign path e) (StmtKind-F.Assign path e) (plain_shape (beside target size)) (what.outs-Assign path e)
      (plain_most (beside (size_of_path path) (size_of e)) (beside target size) (size_beside (size_of_path path) (size_of e) target size one other))
  assign_in (found.Place path) None target size one other = tt
  assign_in (found.Constant s n) value target size one other = tt
  assign_in found.Nothing value target size one other = tt

  complete_in : (holds : Bool) (kind : StmtKind) (shape : Shape) → KindIn place shape (Some kind) → KindIn place shape (if holds then Some kind else None)
  complete_in true kind shape most = most
  complete_in false kind shape most = tt

  call_in : (f : ℕ) (given : Arguments) (size : Size) → SizeMost (given_size given.inputs given.outputs) size →
      KindIn place (plain_shape size) (if_complete given (what.Call f))
  call_in f given size most =
      complete_in given.complete (what.Call f given.inputs given.outputs) (plain_shape size)
      (kind_most place (what.Call f given.inputs given.outputs) (StmtKind-F.Call f given.inputs given.outputs) (plain_shape size)
      (what.outs-Call f given.inputs given.outputs)
      (plain_most (given_size given.inputs given.outputs) size most))

  run_in : (f : ℕ) (target : Option (Option Path)) (given : Arguments) (taker size : Size) → taker.depth ≡ 0 → TargetIn taker target →
      SizeMost (given_size given.inputs given.outputs) size →
      KindIn place (plain_shape (record { depth = size.depth; roots = taker.roots ++ size.roots })) (run_made target f given)
  run_in f (Some target) given taker size flat one other =
      complete_in given.complete (what.Run target f given.inputs given.outputs) (plain_shape (record { depth = size.depth; roots = taker.roots ++ size.roots }))
      (kind_most place (what.Run target f given.inputs given.outputs) (StmtKind-F.Run target f given.inputs given.outputs)
      (plain_shape (record { depth = size.depth; roots = taker.roots ++ size.roots }))
      (what.outs-Run target f given.inputs given.outputs)
      (plain_most (beside (size_of_target target) (given_size given.inputs given.outputs)) (record { depth = size.depth; roots = taker.roots ++ size.roots })
      (size_second (size_of_target target) (given_size given.inputs given.outputs) taker size flat one other)))
  run_in f None given taker size flat one other = tt

  await_in : (test : Option Expr) (size : Size) → ExprIn size test → KindIn place (plain_shape size) (option_map what.Await test)
  await_in (Some e) size most = kind_most place (what.Await e) (StmtKind-F.Await e) (plain_shape size) (what.outs-Await e) (plain_most (size_of e) size most)
  await_in None size most = tt

  return_value : (value : Option Expr) (size : Size) → ExprIn size value → KindIn place (plain_shape size) (option_map (λ e. what.Return (Some e)) value)
  return_value (Some e) size most = kind_most place (what.Return (Some e)) (StmtKind-F.Return (Some e)) (plain_shape size) (what.outs-Return (Some e))
      (plain_most (size_of e) size most)
  return_value None size most = tt

  return_none : KindIn place (plain_shape empty) (Some (what.Return None))
  return_none = kind_most place (what.Return None) (StmtKind-F.Return None) (plain_shape empty) (what.outs-Return None)
      (plain_most empty empty (size_empty empty))

  return_in : (at : Place) (e : Option NamedExpr) (result : Option ScalarType) (env : Environment) →
      KindIn place (plain_shape (record { depth = nested.optional_depth e; roots = named.optional_roots e })) (returned at e result env).made
  return_in at (Some e) (Some s) env = return_value (in_context (Some (scalar s)) (judged env e)).made (named_size e) (context_in env (Some (scalar s)) e)
  return_in at (Some e) None env = return_value (in_context None (judged env e)).made (named_size e) (context_in env None e)
  return_in at None (Some s) env = return_none
  return_in at None None env = return_none

  guarded_in : (guard : Guard) (test : Option Expr) (body : List Stmt) (size : Size) (others : Shapes) → ExprIn size test →
      ShapesMost (bodies body) others →
      KindIn place (tested_shape size others) (option_map (λ e. what.When guard e body) test)
  guarded_in guard (Some e) body size others one more =
      kind_most place (what.When guard e body) (StmtKind-F.When guard e body) (tested_shape size others) (what.outs-When guard e body)
      (tested_most (size_of e) size (bodies body) others one more)
  guarded_in guard None body size others one more = tt

  until_in : (test : Option Expr) (body : List Stmt) (size : Size) (others : Shapes) → ExprIn size test → ShapesMost (bodies body) others →
      KindIn place (tested_shape size others) (option_map (λ e. what.Until body e) test)
  until_in (Some e) body size others one more =
      kind_most place (what.Until body e) (StmtKind-F.Until body e) (tested_shape size others) (what.outs-Until body e)
      (tested_most (size_of e) size (bodies body) others one more)
  until_in None body size others one more = tt

  while_in : (test : Option Expr) (body : List Stmt) (size : Size) (others : Shapes) → ExprIn size test → ShapesMost (bodies body) others →
      KindIn place (tested_shape size others) (option_map (λ e. what.While e body) test)
  while_in (Some e) body size others one more =
      kind_most place (what.While e body) (StmtKind-F.While e body) (tested_shape size others) (what.outs-While e body)
      (tested_most (size_of e) size (bodies body) others one more)
  while_in None body size others one more = tt

arm_in : (test : Option Expr) (body : List Stmt) (size : Size) (others : Shapes) → ExprIn size test → ShapesMost (bodies body) others →
    ShapeIn arm_depth arm_naming (tested_shape size others) (option_map (λ e. arm_of e body) test)
arm_in (Some e) body size others one more = subst (λ shape. ShapeMost shape (tested_shape size others)) (sym (arm_shape_is e body))
    (tested_most (size_of e) size (bodies body) others one more)
arm_in None body size others one more = tt

-- ---- all statements

module _ (constants : List NamedConstant) (vars : List NamedVar) where
  abbrev P : NamedStmt → Type 0
  P s = (env : Environment) → ShapeIn depths.depth_of names.naming_of (named_shape s) (walked_stmt constants vars s env).made

  abbrev Q : NamedArm → Type 0
  Q arm = (env : Environment) → ShapeIn arm_depth arm_naming (record { depth = levels.depth_of_arm arm; naming = apart.naming_of_arm arm })
      (arm_walked constants vars arm env).made

  abbrev R : NamedBranch → Type 0
  R branch = (env : Environment) → ShapeIn branch_depth branch_naming
      (record { depth = levels.depth_of_branch branch; naming = apart.naming_of_branch branch })
      (branch_walked constants vars branch env).made

  abbrev walked_body : List NamedStmt → Environment → Block Stmt
  walked_body body env = in_order (map (walked_stmt constants vars) body) env

  body_in : (body : List NamedStmt) → All P body → (env : Environment) → ShapesMost (bodies (walked_body body env).made) (named_bodies body)
  body_in = in_order_in depths.depth_of names.naming_of nested.depth_of named.naming_of (walked_stmt constants vars)

  by_kind : (place : Place) (layer : Layer) → ((env : Environment) →
      KindIn place (named_kind_shape layer) (walked_by constants vars layer place env).made) →
      P (stmt place layer)
  by_kind place layer most env =
      subst (λ shape. ShapeIn depths.depth_of names.naming_of shape (walked_stmt constants vars (stmt place layer) env).made)
      (sym (named_shape_is place layer))
      (subst (λ (walk : StatementJudgement Stmt). ShapeIn depths.depth_of names.naming_of (named_kind_shape layer) (walk env).made)
      (sym (walked_is constants vars place layer))
      (made_in place (named_kind_shape layer) (walked_by constants vars layer place env).made (most env)))

  condition_in : (env : Environment) (e : NamedExpr) → ExprIn (named_size e) (condition env e).made
  condition_in env e = context_in env (Some (scalar OfBool)) e

  arm_case : (test : NamedExpr) (body : List NamedStmt) → All P body → Q (roll-NamedArm (record { test = test; body = body }))
  arm_case test body each env =
      let arm : NamedArm = roll-NamedArm (record { test = test; body = body }) in
      let walked_as : arm_walked constants vars arm ≡ walked_arm (record { test = test; body = map (walked_stmt constants vars) body }) =
      rw fold-roll-NamedArm refl in
      let depth_is : levels.depth_of_arm arm ≡ (tested_shape (named_size test) (named_bodies body)).depth = rw fold-roll-NamedArm refl in
      let naming_is : apart.naming_of_arm arm ≡ (tested_shape (named_size test) (named_bodies body)).naming = rw fold-roll-NamedArm refl in
      subst (λ (walk : StatementJudgement Arm). ShapeIn arm_depth arm_naming (record { depth = levels.depth_of_arm arm; naming = apart.naming_of_arm arm }) (walk env).made)
      (sym walked_as)
      (subst (λ shape. ShapeIn arm_depth arm_naming shape (option_map (λ e. arm_of e (walked_body body env).made) (condition env test).made))
      (λ i. record { depth = sym depth_is i; naming = sym naming_is i })
      (arm_in (condition env test).made (walked_body body env).made (named_size test) (named_bodies body) (condition_in env test) (body_in body each env)))

  branch_case : (weak : Bool) (body : List NamedStmt) → All P body → R (roll-NamedBranch (record { weak = weak; body = body }))
  branch_case weak body each env =
      let branch : NamedBranch = roll-NamedBranch (record { weak = weak; body = body }) in
      let walked_as : branch_walked constants vars branch ≡ walked_branch (record { weak = weak; body = map (walked_stmt constants vars) body }) =
      rw fold-roll-NamedBranch refl in
      let depth_is : levels.depth_of_branch branch ≡ (block_shape (named_bodies body)).depth = rw fold-roll-NamedBranch refl in
      let naming_is : apart.naming_of_branch branch ≡ (block_shape (named_bodies body)).naming = rw fold-roll-NamedBranch refl in
      subst (λ (walk : StatementJudgement Branch). ShapeIn branch_depth branch_naming (record
      { depth = levels.depth_of_branch branch; naming = apart.naming_of_branch branch }) (walk env).made) (sym walked_as)
      (subst (λ shape. ShapeIn branch_depth branch_naming shape (Some (roll-Branch (record { weak = weak; body = (walked_body body env).made }))))
      (λ i. record { depth = sym depth_is i; naming = sym naming_is i })
      (subst (λ shape. ShapeMost shape (block_shape (named_bodies body))) (sym (branch_shape_is weak (walked_body body env).made))
      (bodies_most (bodies (walked_body body env).made) (named_bodies body) (body_in body each env))))

  branching_case : (place : Place) (arms : List NamedArm) (other : List NamedStmt) → All Q arms → All P other →
      P (stmt place (NamedStmtKind-F.If arms other))
  branching_case place arms other each rest = by_kind place (NamedStmtKind-F.If arms other)
      (λ env.
      let tests : Block Arm = in_order (map (arm_walked constants vars) arms) env in
      let last : Block Stmt = walked_body other tests.env in
      kind_most place (what.If tests.made last.made) (StmtKind-F.If tests.made last.made)
      (choice_shape (shapes_of levels.depth_of_arm apart.naming_of_arm arms) (named_bodies other)) (what.outs-If tests.made last.made)
      (choice_most (shapes_of arm_depth arm_naming tests.made) (bodies last.made) (shapes_of levels.depth_of_arm apart.naming_of_arm arms) (named_bodies other)
      (in_order_in arm_depth arm_naming levels.depth_of_arm apart.naming_of_arm (arm_walked constants vars) arms each env) (body_in other rest tests.env)))

  cobegin_case : (place : Place) (branches : List NamedBranch) → All R branches → P (stmt place (NamedStmtKind-F.Cobegin branches))
  cobegin_case place branches each = by_kind place (NamedStmtKind-F.Cobegin branches)
      (λ env.
      let all : Block Branch = in_order (map (branch_walked constants vars) branches) env in
      kind_most place (what.Cobegin all.made) (StmtKind-F.Cobegin all.made) (branches_shape (shapes_of levels.depth_of_branch apart.naming_of_branch branches))
      (what.outs-Cobegin all.made)
      (branching_most (shapes_of branch_depth branch_naming all.made) (shapes_of levels.depth_of_branch apart.naming_of_branch branches)
      (in_order_in branch_depth branch_naming levels.depth_of_branch apart.naming_of_branch (branch_walked constants vars) branches each env)))

  shape_cases : Cases P Q R
  shape_cases = record {
    declare = λ place k value. by_kind place (NamedStmtKind-F.Declare k value) (λ env. declare_in place k (slice_get vars k) value env);
    constant = λ place k. by_kind place (NamedStmtKind-F.Const k) (λ env. tt);
    assign = λ place target e. by_kind place (NamedStmtKind-F.Assign target e)
        (λ env. assign_in place (targeted env target).found (in_context (type_found (targeted env target).found) (judged env e)).made (target_size target)
        (named_size e) (targeted_in env target) (context_in env (type_found (targeted env target).found) e));
    call = λ place name f inputs outputs. by_kind place (NamedStmtKind-F.Call name f inputs outputs)
        (λ env. call_in place f (arguments env name f inputs outputs) (wanted_size inputs outputs) (arguments_in env name f inputs outputs));
    await = λ place e. by_kind place (NamedStmtKind-F.Await e) (λ env. await_in place (condition env e).made (named_size e) (condition_in env e));
    run = λ place target name f inputs outputs. by_kind place (NamedStmtKind-F.Run target name f inputs outputs)
        (λ env. run_in place f (run_target env (slice_get env.units f) target).made (arguments env name f inputs outputs) (taker_size target)
        (wanted_size inputs outputs) refl
        (run_target_in env (slice_get env.units f) target) (arguments_in env name f inputs outputs));
    branching = branching_case;
    cobegin = cobegin_case;
    guarded = λ place guard e body each. by_kind place (NamedStmtKind-F.When guard e body)
        (λ env. guarded_in place guard (condition env e).made (walked_body body env).made (named_size e) (named_bodies body) (condition_in env e)
        (body_in body each env));
    repeat = λ place body each. by_kind place (NamedStmtKind-F.Repeat body)
        (λ env. kind_most place (what.Repeat (walked_body body env).made) (StmtKind-F.Repeat (walked_body body env).made) (block_shape (named_bodies body))
        (what.outs-Repeat (walked_body body env).made)
        (bodies_most (bodies (walked_body body env).made) (named_bodies body) (body_in body each env)));
    until = λ place body e each. by_kind place (NamedStmtKind-F.Until body e)
        (λ env. until_in place (condition (walked_body body env).env e).made (walked_body body env).made (named_size e) (named_bodies body)
        (condition_in (walked_body body env).env e) (body_in body each env));
    while = λ place e body each. by_kind place (NamedStmtKind-F.While e body)
        (λ env. while_in place (condition env e).made (walked_body body env).made (named_size e) (named_bodies body) (condition_in env e)
        (body_in body each env));
    returns = λ place e. by_kind place (NamedStmtKind-F.Return e) (λ env. return_in place place e env.result env);
    arm = arm_case;
    branch = branch_case;
  }

  -- what is made of a statement is no more than it
  pub statement_in : (s : NamedStmt) → P s
  statement_in = induct P Q R shape_cases

  -- and what is made of statements no more than they are
  pub statements_in : (body : List NamedStmt) (env : Environment) → ShapesMost (bodies (walked_body body env).made) (named_bodies body)
  statements_in body = body_in body (λ k d within. statement_in _)
