-- What items do to names, where places are mapped.
use Rattle.std.proofs.Common.{◌≡◌, Bool, List, [], ◌∷◌, ◌++◌, map, refl, ap, ap₂, subst, sym, ◌∙◌}
use Rattle.std.proofs.lemmas.List.{map-append}
use Rattle.std.specs.Prelude.{All, Option, Some, None, option_map}
use Rattle.bl_tree.specs.declared.place.Place.{Place}
use Rattle.bl_tree.specs.declared.scalar.Scalar.{Scalar}
use Rattle.bl_tree.specs.Reduce.{joined}
use Rattle.bl_tree_laws_places.proofs.Lists.{joined-map, map-behind}
use Rattle.bl_parse_tree.specs.declared.expr.RawExpr.{RawExpr, fold-roll-RawExpr}
use Rattle.bl_parse_tree.specs.declared.expr.RawExprKind.{RawExprKind, fold-RawExprKind, fold-roll-RawExprKind}
use Rattle.bl_parse_tree.specs.declared.expr.RawExprKind.TheOpen.{RawExprKind-F, RawPart-F}
use Rattle.bl_parse_tree.specs.declared.expr.RawPart.{RawPart, fold-roll-RawPart}
use Rattle.bl_parse_tree.specs.declared.expr.RawTarget.{RawTarget, fold-roll-RawTarget, roll-RawTarget}
use Rattle.bl_parse_tree.specs.declared.item.RawField.{RawField}
use Rattle.bl_parse_tree.specs.declared.item.RawItem.{RawItem}
use Rattle.bl_parse_tree.specs.declared.item.RawItem.TheVariants.{Struct, Constant, Unit as UnitItem}
use Rattle.bl_parse_tree.specs.declared.item.RawParam.{RawParam}
use Rattle.bl_parse_tree.specs.declared.item.RawStruct.{RawStruct}
use Rattle.bl_parse_tree.specs.declared.item.RawUnit.{RawUnit}
use Rattle.bl_parse_tree.specs.declared.name.Name.{Name}
use Rattle.bl_parse_tree.specs.declared.stmt.RawArm.{RawArm, fold-roll-RawArm}
use Rattle.bl_parse_tree.specs.declared.stmt.RawBranch.{RawBranch, fold-roll-RawBranch}
use Rattle.bl_parse_tree.specs.declared.stmt.RawConstant.{RawConstant}
use Rattle.bl_parse_tree.specs.declared.stmt.RawPath.{RawPath}
use Rattle.bl_parse_tree.specs.declared.stmt.RawStmt.{RawStmt, fold-roll-RawStmt}
use Rattle.bl_parse_tree.specs.declared.stmt.RawStmtKind.{RawStmtKind, fold-RawStmtKind, fold-roll-RawStmtKind, roll-RawStmtKind}
use Rattle.bl_parse_tree.specs.declared.stmt.RawStmtKind.TheOpen.{RawStmtKind-F}
use Rattle.bl_parse_tree.specs.declared.types.RawLength.{RawLength}
use Rattle.bl_parse_tree.specs.declared.types.RawLength.TheVariants.{Number, Constant as OfConstant}
use Rattle.bl_parse_tree.specs.declared.types.RawType.{RawType, fold-roll-RawType, ind-RawType, map-RawType, roll-RawType}
use Rattle.bl_parse_tree.specs.declared.types.RawType.TheOpen.{RawType-F}
use Rattle.bl_parse_tree.specs.declared.types.RawType.TheVariants.{rolls-Scalar, rolls-Struct, rolls-Array}
use Rattle.bl_joined.specs.Trees.{placed_constant, placed_expr, placed_field, placed_item, placed_length, placed_name, placed_param, placed_path, placed_stmt}
use Rattle.bl_joined.specs.Trees.{placed_struct, placed_target, placed_type, placed_unit}
use Rattle.bl_names_scopes.specs.declared.kind.Kind.{Kind}
use Rattle.bl_names_scopes.specs.declared.kind.Kind.TheVariants as kind
use Rattle.bl_names_scopes.specs.declared.kind.Wanted.{Wanted}
use Rattle.bl_names_scopes.specs.declared.kind.Wanted.TheVariants as wanted
use Rattle.bl_names_scopes.specs.Marks.{Marks, argument_marks, arm_layer_marks, branch_layer_marks, closes, constant_marks, declared_after, declares}
use Rattle.bl_names_scopes.specs.Marks.{expr_layer_marks, expr_marks, field_mark, field_type_marks, in_scope, inside_unit, item_marks, kind_marks, kind_of_unit}
use Rattle.bl_names_scopes.specs.Marks.{length_marks, marks_of_arm, marks_of_branch, marks_of_part, opens, optional, param_marks, part_marks, path_marks}
use Rattle.bl_names_scopes.specs.Marks.{stmt_kind_marks, stmt_layer_marks, stmt_marks, struct_marks, target_layer_marks, target_marks, type_marks, unit_marks}
use Rattle.bl_names_scopes.specs.Marks.{uses}
use Rattle.bl_names_scopes_laws_places.specs.Agree.{placed_mark, placed_marks}
use Rattle.bl_names_scopes_laws_places.specs.Laws.{MarksMove}
use Rattle.bl_names_scopes_laws_places.proofs.RawExprs as exprs
use Rattle.bl_names_scopes_laws_places.proofs.RawStmts as stmts

module _ (f : Place → Place) where
  abbrev moved : Marks → Marks
  moved = placed_marks f

  -- ---- marks that are put together

  pub both : (a b c d : Marks) → a ≡ moved c → b ≡ moved d → a ++ b ≡ moved (c ++ d)
  both a b c d first second = ap₂ (λ xs ys. xs ++ ys) first second ∙ sym (map-append (placed_mark f) c d)

  pub scope_moves : (a c : Marks) → a ≡ moved c → in_scope a ≡ moved (in_scope c)
  scope_moves a c is = ap (λ xs. opens ∷ xs) (both a (closes ∷ []) c (closes ∷ []) is refl)

  pub after_moves : (a c : Marks) (name : Name) (of : Kind) → a ≡ moved c →
      declared_after a (placed_name f name) of ≡ moved (declared_after c name of)
  after_moves a c name of is = both a (declares (placed_name f name) of ∷ []) c (declares name of ∷ []) is refl

  pub each_moves : {A : Type 0} (of : A → Marks) (placed : A → A) (xs : List A) → All (λ x. of (placed x) ≡ moved (of x)) xs →
      joined (map of (map placed xs)) ≡ moved (joined (map of xs))
  each_moves of placed xs all = ap joined (map-behind of placed moved xs all) ∙ joined-map (placed_mark f) (map of xs)

  pub optional_moves : {A : Type 0} (of : A → Marks) (placed : A → A) → ((x : A) → of (placed x) ≡ moved (of x)) → (x : Option A) →
      optional of (option_map placed x) ≡ moved (optional of x)
  optional_moves of placed moves None = refl
  optional_moves of placed moves (Some x) = moves x

  -- ---- types

  length_moves : (n : RawLength) → length_marks (placed_length f n) ≡ moved (length_marks n)
  length_moves (Number n) = refl
  length_moves (OfConstant name) = refl

  abbrev TypeMoves : RawType → Type 0
  TypeMoves ty = type_marks (placed_type f ty) ≡ moved (type_marks ty)

  pub scalar_is : (s : Scalar) → placed_type f (roll-RawType (RawType-F.Scalar s)) ≡ roll-RawType (RawType-F.Scalar s)
  scalar_is s = rw fold-roll-RawType (sym (rolls-Scalar _))

  pub struct_is : (name : Name) → placed_type f (roll-RawType (RawType-F.Struct name)) ≡ roll-RawType (RawType-F.Struct (placed_name f name))
  struct_is name = rw fold-roll-RawType (sym (rolls-Struct _))

  pub array_is : (n : RawLength) (element : RawType) →
      placed_type f (roll-RawType (RawType-F.Array n element)) ≡ roll-RawType (RawType-F.Array (placed_length f n) (placed_type f element))
  array_is n element = rw fold-roll-RawType (sym (rolls-Array _ _))

  array_moves : (n : RawLength) (element : RawType) → TypeMoves element → TypeMoves (roll-RawType (RawType-F.Array n element))
  array_moves n element h =
      ap type_marks (array_is n element)
      ∙ simp fold-roll-RawType (both (length_marks (placed_length f n)) (type_marks (placed_type f element)) (length_marks n) (type_marks element)
      (length_moves n) h)

  abbrev bare : RawType-F ((ty : RawType) × TypeMoves ty) → RawType-F RawType
  bare = map-RawType ((ty : RawType) × TypeMoves ty) RawType (λ e. e.0)

  type_cases : (shown : RawType-F ((ty : RawType) × TypeMoves ty)) → TypeMoves (roll-RawType (bare shown))
  type_cases (RawType-F.Scalar s) = ap type_marks (scalar_is s) ∙ simp fold-roll-RawType refl
  type_cases (RawType-F.Struct name) = ap type_marks (struct_is name) ∙ simp fold-roll-RawType refl
  type_cases (RawType-F.Array n element) = array_moves n element.0 element.1

  pub type_moves : (ty : RawType) → TypeMoves ty
  type_moves = ind-RawType TypeMoves (λ x y is. subst (λ layer. TypeMoves (roll-RawType layer)) is (type_cases y))

  -- ---- expressions

  abbrev pub marks_of_kind : RawExprKind → Marks
  marks_of_kind = fold-RawExprKind Marks Marks Marks (Wanted → Marks) kind_marks part_marks expr_layer_marks target_layer_marks

  abbrev KindMoves : RawExprKind → Type 0
  KindMoves what = marks_of_kind (exprs.said f what) ≡ moved (marks_of_kind what)

  abbrev PartMoves : RawPart → Type 0
  PartMoves part = marks_of_part (exprs.stepped f part) ≡ moved (marks_of_part part)

  abbrev ExprMoves : RawExpr → Type 0
  ExprMoves e = expr_marks (placed_expr f e) ≡ moved (expr_marks e)

  abbrev TargetMoves : RawTarget → Type 0
  TargetMoves target = (needed : Wanted) → target_marks (placed_target f target) needed ≡ moved (target_marks target needed)

  -- a target by its parts
  target_layer : (place : Place) (root : Name) (parts : List RawPart) (needed : Wanted) →
      target_marks (roll-RawTarget (record { place = place; root = root; parts = parts })) needed
      ≡ uses root needed ∷ joined (map marks_of_part parts)
  target_layer place root parts needed =
      ap (λ (marks : Wanted → Marks). marks needed)
      (fold-roll-RawTarget Marks Marks Marks (Wanted → Marks) kind_marks part_marks expr_layer_marks target_layer_marks
      (record { place = place; root = root; parts = parts }))

  expr_cases : exprs.Cases KindMoves PartMoves ExprMoves TargetMoves
  expr_cases = record {
    number = λ minus n. ap marks_of_kind (exprs.said_is f (RawExprKind-F.Number minus n)) ∙ simp fold-roll-RawExprKind refl;
    truth = λ b. ap marks_of_kind (exprs.said_is f (RawExprKind-F.Truth b)) ∙ simp fold-roll-RawExprKind refl;
    read = λ target h. ap marks_of_kind (exprs.said_is f (RawExprKind-F.Read target)) ∙ simp fold-roll-RawExprKind (h wanted.Value);
    prev = λ name. ap marks_of_kind (exprs.said_is f (RawExprKind-F.Prev name)) ∙ simp fold-roll-RawExprKind refl;
    one = λ op a h. ap marks_of_kind (exprs.said_is f (RawExprKind-F.One op a)) ∙ simp fold-roll-RawExprKind h;
    two = λ op a b h k.
        ap marks_of_kind (exprs.said_is f (RawExprKind-F.Two op a b)) ∙ simp fold-roll-RawExprKind (both _ _ (expr_marks a) (expr_marks b) h k);
    cast = λ s a h. ap marks_of_kind (exprs.said_is f (RawExprKind-F.Cast s a)) ∙ simp fold-roll-RawExprKind h;
    call = λ callee inputs h.
        ap marks_of_kind (exprs.said_is f (RawExprKind-F.Call callee inputs))
        ∙ simp fold-roll-RawExprKind
        (ap (λ xs. uses (placed_name f callee) wanted.Function ∷ xs) (each_moves expr_marks (placed_expr f) inputs h));
    field = λ name. ap marks_of_part (exprs.field_is f name) ∙ simp fold-roll-RawPart refl;
    index = λ e h. ap marks_of_part (exprs.index_is f e) ∙ simp fold-roll-RawPart h;
    expr = λ place what h. ap expr_marks (exprs.expr_is f place what) ∙ simp fold-roll-RawExpr h;
    target = λ place root parts h needed.
        ap (λ (t : RawTarget). target_marks t needed) (exprs.target_is f place root parts)
        ∙ target_layer (f place) (placed_name f root) (map (exprs.stepped f) parts) needed
        ∙ ap (λ xs. uses (placed_name f root) needed ∷ xs) (each_moves marks_of_part (exprs.stepped f) parts h)
        ∙ ap moved (sym (target_layer place root parts needed));
  }

  pub expr_moves : (e : RawExpr) → expr_marks (placed_expr f e) ≡ moved (expr_marks e)
  expr_moves = exprs.induct_expr KindMoves PartMoves ExprMoves TargetMoves expr_cases

  pub target_moves : (target : RawTarget) → TargetMoves target
  target_moves = exprs.induct_target KindMoves PartMoves ExprMoves TargetMoves expr_cases

  -- ---- statements

  pub path_moves : (path : RawPath) → path_marks (placed_path f path) ≡ moved (path_marks path)
  path_moves path = refl

  exprs_move : (es : List RawExpr) → joined (map expr_marks (map (placed_expr f) es)) ≡ moved (joined (map expr_marks es))
  exprs_move es = each_moves expr_marks (placed_expr f) es (λ k d less. expr_moves _)

  paths_move : (paths : List RawPath) → joined (map path_marks (map (placed_path f) paths)) ≡ moved (joined (map path_marks paths))
  paths_move paths = each_moves path_marks (placed_path f) paths (λ k d less. refl)

  pub arguments_move : (inputs : List RawExpr) (outputs : List RawPath) →
      argument_marks (map (placed_expr f) inputs) (map (placed_path f) outputs) ≡ moved (argument_marks inputs outputs)
  arguments_move inputs outputs =
      both _ _ (joined (map expr_marks inputs)) (joined (map path_marks outputs)) (exprs_move inputs) (paths_move outputs)

  pub constant_moves : (constant : RawConstant) → constant_marks (placed_constant f constant) ≡ moved (constant_marks constant)
  constant_moves constant =
      after_moves _ (optional type_marks constant.ty ++ expr_marks constant.value) constant.name kind.Constant
      (both _ _ (optional type_marks constant.ty) (expr_marks constant.value)
      (optional_moves type_marks (placed_type f) type_moves constant.ty) (expr_moves constant.value))

  abbrev marks_of_action : RawStmtKind → Marks
  marks_of_action = fold-RawStmtKind Marks Marks Marks Marks stmt_kind_marks arm_layer_marks branch_layer_marks stmt_layer_marks

  abbrev ActionMoves : RawStmtKind → Type 0
  ActionMoves what = marks_of_action (stmts.done f what) ≡ moved (marks_of_action what)

  abbrev ArmMoves : RawArm → Type 0
  ArmMoves arm = marks_of_arm (stmts.armed f arm) ≡ moved (marks_of_arm arm)

  abbrev BranchMoves : RawBranch → Type 0
  BranchMoves branch = marks_of_branch (stmts.branched f branch) ≡ moved (marks_of_branch branch)

  abbrev StmtMoves : RawStmt → Type 0
  StmtMoves s = stmt_marks (placed_stmt f s) ≡ moved (stmt_marks s)

  block_moves : (body : List RawStmt) → All StmtMoves body → joined (map stmt_marks (map (placed_stmt f) body)) ≡ moved (joined (map stmt_marks body))
  block_moves body h = each_moves stmt_marks (placed_stmt f) body h

  own_scope_moves : (body : List RawStmt) → All StmtMoves body →
      in_scope (joined (map stmt_marks (map (placed_stmt f) body))) ≡ moved (in_scope (joined (map stmt_marks body)))
  own_scope_moves body h = scope_moves _ (joined (map stmt_marks body)) (block_moves body h)

  -- an expression before a block in a scope of its own, and behind one
  headed_moves : (e : RawExpr) (body : List RawStmt) → All StmtMoves body →
      expr_marks (placed_expr f e) ++ in_scope (joined (map stmt_marks (map (placed_stmt f) body)))
      ≡ moved (expr_marks e ++ in_scope (joined (map stmt_marks body)))
  headed_moves e body h = both _ _ (expr_marks e) (in_scope (joined (map stmt_marks body))) (expr_moves e) (own_scope_moves body h)

  var_moves : (name : Name) (ty : Option RawType) (value : Option RawExpr) → ActionMoves (roll-RawStmtKind (RawStmtKind-F.Var name ty value))
  var_moves name ty value =
      ap marks_of_action (stmts.done_is f (RawStmtKind-F.Var name ty value))
      ∙ simp fold-roll-RawStmtKind
      (after_moves _ (optional type_marks ty ++ optional expr_marks value) name kind.Variable
      (both _ _ (optional type_marks ty) (optional expr_marks value) (optional_moves type_marks (placed_type f) type_moves ty)
      (optional_moves expr_marks (placed_expr f) expr_moves value)))

  let_moves : (name : Name) (ty : Option RawType) (value : RawExpr) → ActionMoves (roll-RawStmtKind (RawStmtKind-F.Let name ty value))
  let_moves name ty value =
      ap marks_of_action (stmts.done_is f (RawStmtKind-F.Let name ty value))
      ∙ simp fold-roll-RawStmtKind
      (after_moves _ (optional type_marks ty ++ expr_marks value) name kind.Variable
      (both _ _ (optional type_marks ty) (expr_marks value) (optional_moves type_marks (placed_type f) type_moves ty) (expr_moves value)))

  run_moves : (target : Option RawPath) (callee : Name) (inputs : List RawExpr) (outputs : List RawPath) →
      ActionMoves (roll-RawStmtKind (RawStmtKind-F.Run target callee inputs outputs))
  run_moves target callee inputs outputs =
      ap marks_of_action (stmts.done_is f (RawStmtKind-F.Run target callee inputs outputs))
      ∙ simp fold-roll-RawStmtKind
      (both _ _ (optional path_marks target) (uses callee wanted.Activity ∷ argument_marks inputs outputs)
      (optional_moves path_marks (placed_path f) path_moves target)
      (ap (λ xs. uses (placed_name f callee) wanted.Activity ∷ xs) (arguments_move inputs outputs)))

  stmt_cases : stmts.Cases ActionMoves ArmMoves BranchMoves StmtMoves
  stmt_cases = record {
    var = var_moves;
    fixed = let_moves;
    constant = λ constant.
        ap marks_of_action (stmts.done_is f (RawStmtKind-F.Const constant)) ∙ simp fold-roll-RawStmtKind (constant_moves constant);
    assign = λ target e.
        ap marks_of_action (stmts.done_is f (RawStmtKind-F.Assign target e))
        ∙ simp fold-roll-RawStmtKind
        (both _ _ (target_marks target wanted.Variable) (expr_marks e) (target_moves target wanted.Variable) (expr_moves e));
    call = λ callee inputs outputs.
        ap marks_of_action (stmts.done_is f (RawStmtKind-F.Call callee inputs outputs))
        ∙ simp fold-roll-RawStmtKind (ap (λ xs. uses (placed_name f callee) wanted.Function ∷ xs) (arguments_move inputs outputs));
    await = λ e. ap marks_of_action (stmts.done_is f (RawStmtKind-F.Await e)) ∙ simp fold-roll-RawStmtKind (expr_moves e);
    run = run_moves;
    branching = λ arms other h k.
        ap marks_of_action (stmts.done_is f (RawStmtKind-F.If arms other))
        ∙ simp fold-roll-RawStmtKind
        (both _ _ (joined (map marks_of_arm arms)) (in_scope (joined (map stmt_marks other))) (each_moves marks_of_arm (stmts.armed f) arms h)
        (own_scope_moves other k));
    cobegin = λ branches h.
        ap marks_of_action (stmts.done_is f (RawStmtKind-F.Cobegin branches))
        ∙ simp fold-roll-RawStmtKind (each_moves marks_of_branch (stmts.branched f) branches h);
    guarded = λ guard e body h.
        ap marks_of_action (stmts.done_is f (RawStmtKind-F.When guard e body)) ∙ simp fold-roll-RawStmtKind (headed_moves e body h);
    repeat = λ body h.
        ap marks_of_action (stmts.done_is f (RawStmtKind-F.Repeat body)) ∙ simp fold-roll-RawStmtKind (own_scope_moves body h);
    until = λ body e h.
        ap marks_of_action (stmts.done_is f (RawStmtKind-F.Until body e))
        ∙ simp fold-roll-RawStmtKind
        (both _ _ (in_scope (joined (map stmt_marks body))) (expr_marks e) (own_scope_moves body h) (expr_moves e));
    while = λ e body h.
        ap marks_of_action (stmts.done_is f (RawStmtKind-F.While e body)) ∙ simp fold-roll-RawStmtKind (headed_moves e body h);
    returns = λ e.
        ap marks_of_action (stmts.done_is f (RawStmtKind-F.Return e))
        ∙ simp fold-roll-RawStmtKind (optional_moves expr_marks (placed_expr f) expr_moves e);
    arm = λ test body h. ap marks_of_arm (stmts.arm_is f test body) ∙ simp fold-roll-RawArm (headed_moves test body h);
    branch = λ weak body h. ap marks_of_branch (stmts.branch_is f weak body) ∙ simp fold-roll-RawBranch (own_scope_moves body h);
    stmt = λ place what h. ap stmt_marks (stmts.stmt_is f place what) ∙ simp fold-roll-RawStmt h;
  }

  pub stmt_moves : (s : RawStmt) → stmt_marks (placed_stmt f s) ≡ moved (stmt_marks s)
  stmt_moves = stmts.induct_stmt ActionMoves ArmMoves BranchMoves StmtMoves stmt_cases

  -- ---- items

  fields_move : (fields : List RawField) → map field_mark (map (placed_field f) fields) ≡ moved (map field_mark fields)
  fields_move fields = map-behind field_mark (placed_field f) (placed_mark f) fields (λ k d less. refl)

  struct_moves : (def : RawStruct) → struct_marks (placed_struct f def) ≡ moved (struct_marks def)
  struct_moves def =
      after_moves _ (joined (map field_type_marks def.fields) ++ in_scope (map field_mark def.fields)) def.name kind.Struct
      (both _ _ (joined (map field_type_marks def.fields)) (in_scope (map field_mark def.fields))
      (each_moves field_type_marks (placed_field f) def.fields (λ k d less. type_moves _))
      (scope_moves _ (map field_mark def.fields) (fields_move def.fields)))

  params_move : (params : List RawParam) → joined (map param_marks (map (placed_param f) params)) ≡ moved (joined (map param_marks params))
  params_move params =
      each_moves param_marks (placed_param f) params
      (λ k d less. let param : RawParam = _ in after_moves _ (type_marks param.ty) param.name kind.Variable (type_moves param.ty))

  unit_moves : (def : RawUnit) → unit_marks (placed_unit f def) ≡ moved (unit_marks def)
  unit_moves def =
      after_moves _ (in_scope (inside_unit def)) def.name (kind_of_unit def.kind)
      (scope_moves _ (inside_unit def)
      (both _ _ (joined (map param_marks def.inputs))
      (joined (map param_marks def.outputs) ++ (optional type_marks def.result ++ joined (map stmt_marks def.body))) (params_move def.inputs)
      (both _ _ (joined (map param_marks def.outputs)) (optional type_marks def.result ++ joined (map stmt_marks def.body))
      (params_move def.outputs)
      (both _ _ (optional type_marks def.result) (joined (map stmt_marks def.body))
      (optional_moves type_marks (placed_type f) type_moves def.result) (block_moves def.body (λ k d less. stmt_moves _))))))

  pub item_moves : (item : RawItem) → item_marks (placed_item f item) ≡ moved (item_marks item)
  item_moves (Struct def) = struct_moves def
  item_moves (Constant constant) = constant_moves constant
  item_moves (UnitItem def) = unit_moves def

pub marks_move : MarksMove
marks_move f items = each_moves f item_marks (placed_item f) items (λ k d less. item_moves f _)
