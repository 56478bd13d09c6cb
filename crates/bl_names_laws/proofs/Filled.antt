-- Statements with positions in place of names have what the grammar wants, where they had it.
use Rattle.std.proofs.Common.{◌≡◌, ℕ, ◌+◌, Bool, true, ◌&&◌, ◌||◌, List, [], ◌∷◌, ◌++◌, map, length, refl, sym, ap, subst, ◌∙◌, append-nil, arith}
use Rattle.std.specs.Prelude.{All, Option, Some, None, is_some, option_map, slice_get}
use Rattle.std.specs.List.{list_all}
use Rattle.std.proofs.lemmas.List.Elements.{All-head, All-tail}
use Rattle.std.proofs.lemmas.Bool.{and_from}
use Rattle.bl_tree.proofs.Basics.{all_is_all_of, and_first, and_second}
use Rattle.bl_tree.specs.declared.place.Place.{Place}
use Rattle.bl_tree.specs.declared.tree.Role.{Role}
use Rattle.bl_tree.specs.declared.tree.Role.TheVariants as role
use Rattle.bl_tree.specs.Reduce.{all_of}
use Rattle.bl_tree.specs.Typing.{is_inhabited}
use Rattle.bl_names_tree.specs.declared.item.NamedVar.{NamedVar}
use Rattle.bl_names_tree.specs.declared.stmt.NamedStmtKind.{out-NamedStmtKind}
use Rattle.bl_names_tree.specs.declared.stmt.NamedStmtKind.TheOpen.{NamedStmtKind-F}
use Rattle.bl_names_tree.specs.declared.stmt.NamedStmtKind.TheVariants as what
use Rattle.bl_parse_tree.specs.declared.expr.RawExpr.{RawExpr}
use Rattle.bl_parse_tree.specs.declared.item.RawItem.{RawItem}
use Rattle.bl_parse_tree.specs.declared.item.RawItem.TheVariants as item
use Rattle.bl_parse_tree.specs.declared.item.RawParam.{RawParam}
use Rattle.bl_parse_tree.specs.declared.item.RawUnit.{RawUnit}
use Rattle.bl_parse_tree.specs.declared.name.Name.{Name}
use Rattle.bl_parse_tree.specs.declared.stmt.RawArm.{RawArm}
use Rattle.bl_parse_tree.specs.declared.stmt.RawBranch.{RawBranch}
use Rattle.bl_parse_tree.specs.declared.stmt.RawStmt.{RawStmt}
use Rattle.bl_parse_tree.specs.declared.stmt.RawStmtKind.TheOpen.{RawStmtKind-F}
use Rattle.bl_parse_tree.specs.declared.types.RawType.{RawType}
use Rattle.bl_parse_tree.specs.Names.{arm_stands, branch_stands, expr_named, is_filled as has_member, item_stands, named, optional, param_named}
use Rattle.bl_parse_tree.specs.Names.{stmt_kind_stands, stmt_layer_stands, stmt_stands, type_named, unit_stands}
use Rattle.bl_names_scopes.specs.Marks.{expr_marks, item_marks, type_marks}
use Rattle.bl_names_scopes.specs.Scopes.{Scopes, after, file_scope}
use Rattle.bl_names.specs.Named.{Piece, block_piece, kind_piece, made_of_all, marks_of_all, named_program, named_unit, named_var, opened, param_piece}
use Rattle.bl_names.specs.Named.{params_piece, piece_of_arm, piece_of_branch, role_piece, stmt_piece, units_of, vars_of_all}
use Rattle.bl_names.specs.Naming.{named_expr, named_path, named_target, position}
use Rattle.bl_names.proofs.PieceLemmas.{arm_is, branch_is, parts, stmt_is}
use Rattle.bl_names.proofs.PlacedStmt.{Within, within_first, within_one, within_second}
use Rattle.bl_names.proofs.RawStmtInduction.{Cases, induct, stmt}
use Rattle.bl_names.proofs.StillLemmas.{still_expr, still_type}
use Rattle.bl_names_laws.specs.Filled.{arm_filled, branch_filled, declaration_filled, is_filled, is_told, kind_filled, layer_filled}
use Rattle.bl_names_laws.specs.inner.Filled.{arm_is_filled, branch_is_filled}
use Rattle.bl_names_laws.specs.WellFormed.{body_filled}
use Rattle.bl_names_laws.proofs.Along.{along_under, none_counted}
use Rattle.bl_names_laws.proofs.Made.{NamedLayer, RawLayer, named_arm_at, named_at, named_branch_at, named_parts, raw_arm_at, raw_at, raw_branch_at, raw_parts}
use Rattle.bl_names_laws.proofs.Moves.{PieceMoves, arm_moves, branch_moves, moving_all, moving_declared, moving_then, stmt_moves}
use Rattle.bl_names_laws.proofs.Names.{arm_of_names, branch_of_names}

told : (scopes : Scopes) (name : Name) (ty : Option RawType) (value : Option RawExpr) → (is_some ty || is_some value) ≡ true →
    is_told (named_var scopes name ty role.Variable) (is_some (option_map (named_expr scopes) value)) ≡ true
told scopes name ty (Some e) stands = refl
told scopes name (Some ty) None stands = refl
told scopes name None None stands = stands

inhabited : {X A : Type 0} (filled : A → Bool) (stands : X → Bool) (piece : X → Piece A) (xs : List X) (scopes : Scopes) →
    has_member (map stands xs) ≡ true →
    is_inhabited (map filled (made_of_all (map piece xs) scopes)) ≡ true
inhabited filled stands piece [] scopes has = has
inhabited filled stands piece (x ∷ xs) scopes has = refl

module _ (all_vars : List NamedVar) where
  -- a part becomes what has what the grammar wants, where this is true
  abbrev Good : {A : Type 0} → (A → Bool) → Bool → Piece A → Type 0
  Good filled stands piece = stands ≡ true → (scopes : Scopes) → Within all_vars scopes.counts.variables (piece.vars scopes) →
      filled (piece.made scopes) ≡ true

  abbrev StmtGood : RawStmt → Type 0
  StmtGood s = Good (is_filled all_vars) (stmt_stands s) (stmt_piece s)

  abbrev ArmGood : RawArm → Type 0
  ArmGood arm = Good (arm_is_filled all_vars) (arm_of_names arm) (piece_of_arm arm)

  abbrev BranchGood : RawBranch → Type 0
  BranchGood branch = Good (branch_is_filled all_vars) (branch_of_names branch) (piece_of_branch branch)

  -- the variables behind those of a part
  behind : (scopes new : Scopes) (vars more : List NamedVar) → new.counts.variables ≡ scopes.counts.variables + length vars
      → Within all_vars scopes.counts.variables (vars ++ more) → Within all_vars new.counts.variables more
  behind scopes new vars more is within = subst (λ at. Within all_vars at more) (sym is) (within_second all_vars scopes.counts.variables vars more within)

  good_all : {X A : Type 0} (filled : A → Bool) (stands : X → Bool) (piece : X → Piece A) → ((x : X) → PieceMoves (piece x)) → (xs : List X)
      → All (λ x. Good filled (stands x) (piece x)) xs →
      all_of (map stands xs) ≡ true → (scopes : Scopes) → Within all_vars scopes.counts.variables (vars_of_all (map piece xs) scopes)
      → all_of (map filled (made_of_all (map piece xs) scopes)) ≡ true
  good_all filled stands piece moves [] each hold scopes within = refl
  good_all filled stands piece moves (x ∷ xs) each hold scopes within =
      let new = after scopes (piece x).marks in
      and_from (filled ((piece x).made scopes)) (all_of (map filled (made_of_all (map piece xs) new)))
      (All-head (λ x. Good filled (stands x) (piece x)) x xs each (and_first (stands x) (all_of (map stands xs)) hold) scopes
      (within_first all_vars scopes.counts.variables ((piece x).vars scopes) (vars_of_all (map piece xs) new) within))
      (good_all filled stands piece moves xs (All-tail (λ x. Good filled (stands x) (piece x)) x xs each)
      (and_second (stands x) (all_of (map stands xs)) hold) new
      (behind scopes new ((piece x).vars scopes) (vars_of_all (map piece xs) new) (moves x scopes).more within))

  good_body : (body : List RawStmt) → All StmtGood body → all_of (map stmt_stands body) ≡ true → (scopes : Scopes) →
      Within all_vars scopes.counts.variables (vars_of_all (map stmt_piece body) scopes)
      → all_of (map (is_filled all_vars) (made_of_all (map stmt_piece body) scopes)) ≡ true
  good_body body each = good_all (is_filled all_vars) stmt_stands stmt_piece stmt_moves body each

  -- behind a condition
  good_tested : (e : RawExpr) (body : List RawStmt) → All StmtGood body → all_of (map stmt_stands body) ≡ true → (scopes : Scopes) →
      Within all_vars scopes.counts.variables (vars_of_all (map stmt_piece body) (opened (after scopes (expr_marks e)))) →
      all_of (map (is_filled all_vars) (made_of_all (map stmt_piece body) (opened (after scopes (expr_marks e))))) ≡ true
  good_tested e body each hold scopes within =
      good_body body each hold (opened (after scopes (expr_marks e)))
      (subst (λ s. Within all_vars s.counts.variables (vars_of_all (map stmt_piece body) (opened (after scopes (expr_marks e)))))
      (sym (still_expr e scopes)) within)

  abbrev stands_of : RawLayer → Bool
  stands_of layer = stmt_kind_stands (raw_parts Bool stmt_kind_stands arm_stands branch_stands stmt_layer_stands layer)

  abbrev filled_of : NamedLayer → Bool
  filled_of layer = kind_filled all_vars (named_parts Bool (kind_filled all_vars) arm_filled branch_filled layer_filled layer)

  -- a statement whose kind becomes this
  stmt_good : (place : Place) (layer : RawLayer) (made : Scopes → NamedLayer)
      → ((scopes : Scopes) → out-NamedStmtKind ((kind_piece (parts layer)).made scopes) ≡ made scopes) →
      (stands_of layer ≡ true → (scopes : Scopes) → Within all_vars scopes.counts.variables ((kind_piece (parts layer)).vars scopes)
      → filled_of (made scopes) ≡ true) → StmtGood (stmt place layer)
  stmt_good place layer made is gives stands scopes within =
      ap (λ piece. is_filled all_vars (piece.made scopes)) (stmt_is place layer)
      ∙ named_at Bool (kind_filled all_vars) arm_filled branch_filled layer_filled place ((kind_piece (parts layer)).made scopes) (made scopes) (is scopes)
      ∙ gives (sym (raw_at Bool stmt_kind_stands arm_stands branch_stands stmt_layer_stands place layer) ∙ stands) scopes
      (subst (λ piece. Within all_vars scopes.counts.variables (piece.vars scopes)) (stmt_is place layer) within)

  declared : (scopes : Scopes) (var : NamedVar) (has_value : Bool) → Within all_vars scopes.counts.variables (var ∷ []) →
      is_told var has_value ≡ true →
      declaration_filled (slice_get all_vars scopes.counts.variables) has_value ≡ true
  declared scopes var has_value within is = ap (λ found. declaration_filled found has_value) (within_one all_vars scopes.counts.variables var [] within) ∙ is

  cases : Cases StmtGood ArmGood BranchGood
  cases = record {
    var = λ place name ty value. stmt_good place (RawStmtKind-F.Var name ty value)
        (λ scopes. NamedStmtKind-F.Declare scopes.counts.variables (option_map (named_expr scopes) value))
        (λ scopes. what.outs-Declare scopes.counts.variables (option_map (named_expr scopes) value))
        (λ stands scopes within. declared scopes (named_var scopes name ty role.Variable) (is_some (option_map (named_expr scopes) value)) within
        (told scopes name ty value (and_second (optional expr_named value) (is_some ty || is_some value)
        (and_second (optional type_named ty) (optional expr_named value && (is_some ty || is_some value))
        (and_second (named name) (optional type_named ty && (optional expr_named value && (is_some ty || is_some value))) stands)))));
    fixed = λ place name ty value. stmt_good place (RawStmtKind-F.Let name ty value)
        (λ scopes. NamedStmtKind-F.Declare scopes.counts.variables (Some (named_expr scopes value)))
        (λ scopes. what.outs-Declare scopes.counts.variables (Some (named_expr scopes value)))
        (λ stands scopes within. declared scopes (named_var scopes name ty role.Fixed) true within refl);
    constant = λ place constant. stmt_good place (RawStmtKind-F.Const constant) (λ scopes. NamedStmtKind-F.Const scopes.counts.constants)
        (λ scopes. what.outs-Const scopes.counts.constants) (λ stands scopes within. refl);
    assign = λ place target e. stmt_good place (RawStmtKind-F.Assign target e)
        (λ scopes. NamedStmtKind-F.Assign (named_target scopes target) (named_expr scopes e))
        (λ scopes. what.outs-Assign (named_target scopes target) (named_expr scopes e))
        (λ stands scopes within. refl);
    call = λ place f inputs outputs. stmt_good place (RawStmtKind-F.Call f inputs outputs)
        (λ scopes. NamedStmtKind-F.Call f.place (position scopes f) (map (named_expr scopes) inputs) (map (named_path scopes) outputs))
        (λ scopes. what.outs-Call f.place (position scopes f) (map (named_expr scopes) inputs) (map (named_path scopes) outputs))
        (λ stands scopes within. refl);
    await = λ place e. stmt_good place (RawStmtKind-F.Await e) (λ scopes. NamedStmtKind-F.Await (named_expr scopes e))
        (λ scopes. what.outs-Await (named_expr scopes e)) (λ stands scopes within. refl);
    run = λ place target a inputs outputs. stmt_good place (RawStmtKind-F.Run target a inputs outputs)
        (λ scopes. NamedStmtKind-F.Run (option_map (named_path scopes) target) a.place (position scopes a) (map (named_expr scopes) inputs)
        (map (named_path scopes) outputs)) (λ scopes. what.outs-Run (option_map (named_path scopes) target) a.place (position scopes a)
        (map (named_expr scopes) inputs) (map (named_path scopes) outputs))
        (λ stands scopes within. refl);
    branching = λ place arms other in_arms in_other. stmt_good place (RawStmtKind-F.If arms other)
        (λ scopes. NamedStmtKind-F.If (made_of_all (map piece_of_arm arms) scopes)
        (made_of_all (map stmt_piece other) (opened (after scopes (marks_of_all (map piece_of_arm arms))))))
        (λ scopes. what.outs-If (made_of_all (map piece_of_arm arms) scopes)
        (made_of_all (map stmt_piece other) (opened (after scopes (marks_of_all (map piece_of_arm arms))))))
        (λ stands scopes within.
        let tests = map arm_of_names arms in
        let others = all_of (map stmt_stands other) in
        let inside = and_second (has_member tests) (all_of tests && others) stands in
        let new = after scopes (marks_of_all (map piece_of_arm arms)) in
        and_from _ _ (inhabited (arm_is_filled all_vars) arm_of_names piece_of_arm arms scopes (and_first (has_member tests) (all_of tests && others) stands))
        (and_from _ _
        (good_all (arm_is_filled all_vars) arm_of_names piece_of_arm arm_moves arms in_arms (and_first (all_of tests) others inside) scopes
        (within_first all_vars scopes.counts.variables (vars_of_all (map piece_of_arm arms) scopes) (vars_of_all (map stmt_piece other) (opened new)) within))
        (good_body other in_other (and_second (all_of tests) others inside) (opened new)
        (behind scopes new (vars_of_all (map piece_of_arm arms) scopes) (vars_of_all (map stmt_piece other) (opened new))
        (moving_all piece_of_arm arms (λ k d within. arm_moves _) scopes).more within))));
    cobegin = λ place branches in_branches. stmt_good place (RawStmtKind-F.Cobegin branches)
        (λ scopes. NamedStmtKind-F.Cobegin (made_of_all (map piece_of_branch branches) scopes))
        (λ scopes. what.outs-Cobegin (made_of_all (map piece_of_branch branches) scopes))
        (λ stands scopes within.
        let tests = map branch_of_names branches in
        and_from _ _ (inhabited (branch_is_filled all_vars) branch_of_names piece_of_branch branches scopes (and_first (has_member tests) (all_of tests) stands))
        (good_all (branch_is_filled all_vars) branch_of_names piece_of_branch branch_moves branches in_branches
        (and_second (has_member tests) (all_of tests) stands) scopes within));
    guarded = λ place guard e body each. stmt_good place (RawStmtKind-F.When guard e body)
        (λ scopes. NamedStmtKind-F.When guard (named_expr scopes e) (made_of_all (map stmt_piece body) (opened (after scopes (expr_marks e)))))
        (λ scopes. what.outs-When guard (named_expr scopes e) (made_of_all (map stmt_piece body) (opened (after scopes (expr_marks e)))))
        (λ stands scopes within. good_tested e body each (and_second (expr_named e) (all_of (map stmt_stands body)) stands) scopes within);
    repeat = λ place body each. stmt_good place (RawStmtKind-F.Repeat body)
        (λ scopes. NamedStmtKind-F.Repeat (made_of_all (map stmt_piece body) (opened scopes)))
        (λ scopes. what.outs-Repeat (made_of_all (map stmt_piece body) (opened scopes)))
        (λ stands scopes within. good_body body each stands (opened scopes) within);
    until = λ place body e each. stmt_good place (RawStmtKind-F.Until body e)
        (λ scopes. NamedStmtKind-F.Until (made_of_all (map stmt_piece body) (opened scopes)) (named_expr scopes e))
        (λ scopes. what.outs-Until (made_of_all (map stmt_piece body) (opened scopes)) (named_expr scopes e))
        (λ stands scopes within. good_body body each (and_first (all_of (map stmt_stands body)) (expr_named e) stands) (opened scopes) within);
    while = λ place e body each. stmt_good place (RawStmtKind-F.While e body)
        (λ scopes. NamedStmtKind-F.While (named_expr scopes e) (made_of_all (map stmt_piece body) (opened (after scopes (expr_marks e)))))
        (λ scopes. what.outs-While (named_expr scopes e) (made_of_all (map stmt_piece body) (opened (after scopes (expr_marks e)))))
        (λ stands scopes within. good_tested e body each (and_second (expr_named e) (all_of (map stmt_stands body)) stands) scopes within);
    returns = λ place e. stmt_good place (RawStmtKind-F.Return e) (λ scopes. NamedStmtKind-F.Return (option_map (named_expr scopes) e))
        (λ scopes. what.outs-Return (option_map (named_expr scopes) e)) (λ stands scopes within. refl);
    arm = λ test body each stands scopes within.
        ap (λ piece. arm_is_filled all_vars (piece.made scopes)) (arm_is test body)
        ∙ named_arm_at Bool (kind_filled all_vars) arm_filled branch_filled layer_filled (named_expr scopes test)
        (made_of_all (map stmt_piece body) (opened (after scopes (expr_marks test))))
        ∙ good_tested test body each (and_second (expr_named test) (all_of (map stmt_stands body))
        (sym (raw_arm_at Bool stmt_kind_stands arm_stands branch_stands stmt_layer_stands test body) ∙ stands)) scopes
        (subst (λ piece. Within all_vars scopes.counts.variables (piece.vars scopes)) (arm_is test body) within);
    branch = λ weak body each stands scopes within.
        ap (λ piece. branch_is_filled all_vars (piece.made scopes)) (branch_is weak body)
        ∙ named_branch_at Bool (kind_filled all_vars) arm_filled branch_filled layer_filled weak (made_of_all (map stmt_piece body) (opened scopes))
        ∙ good_body body each (sym (raw_branch_at Bool stmt_kind_stands arm_stands branch_stands stmt_layer_stands weak body) ∙ stands) (opened scopes)
        (subst (λ piece. Within all_vars scopes.counts.variables (piece.vars scopes)) (branch_is weak body) within);
  }

  every_of : (body : List RawStmt) → All StmtGood body
  every_of body = λ k d within. induct StmtGood ArmGood BranchGood cases _

-- ---- units

param_moves : (role : Role) (param : RawParam) → PieceMoves (param_piece role param)
param_moves role param = moving_declared (type_marks param.ty) (still_type param.ty) param.name (Some param.ty) role

pub params_move : (def : RawUnit) → PieceMoves (params_piece def)
params_move def =
    moving_then (role_piece role.Input def.inputs).marks (role_piece role.Output def.outputs).marks (role_piece role.Input def.inputs).vars
    (role_piece role.Output def.outputs).vars
    (moving_all (param_piece role.Input) def.inputs (λ k d within. param_moves role.Input _))
    (moving_all (param_piece role.Output) def.outputs (λ k d within. param_moves role.Output _))

-- the scopes that are open behind parameters have counted them, where none was counted before
unit_filled : (scopes : Scopes) (def : RawUnit) → scopes.counts.variables ≡ 0 → unit_stands def ≡ true → body_filled (named_unit scopes def) ≡ true
unit_filled scopes def none stands =
    let two = after (opened scopes) (params_piece def).marks in
    let params = (params_piece def).vars (opened scopes) in
    let locals = (block_piece def.body).vars two in
    let rest = and_second (named def.name && (list_all param_named def.inputs && list_all param_named def.outputs))
    (optional type_named def.result && list_all stmt_stands def.body) stands in
    all_is_all_of (is_filled (params ++ locals)) (made_of_all (map stmt_piece def.body) two)
    ∙ good_body (params ++ locals) def.body (every_of (params ++ locals) def.body)
    (sym (all_is_all_of stmt_stands def.body) ∙ and_second (optional type_named def.result) (list_all stmt_stands def.body) rest) two
    (record {
      before = params;
      rest = [];
      there = ap (λ l. params ++ l) (sym (append-nil locals));
      is_at = counted_from (length params) scopes.counts.variables two.counts.variables none (params_move def (opened scopes)).more;
    })
  where
    counted_from : (n a b : ℕ) → a ≡ 0 → b ≡ a + n → n ≡ b
    counted_from n a b none is = omega arith

-- no variable is counted here, and the items from here on have what the grammar wants
abbrev Known : Scopes → List RawItem → Type 0
Known scopes items = (scopes.counts.variables ≡ 0) × (list_all item_stands items ≡ true)

known_next : (scopes : Scopes) (one : RawItem) (items : List RawItem) → Known scopes (one ∷ items) → Known (after scopes (item_marks one)) items
known_next scopes one items known = (none_counted one scopes known.0, and_second (item_stands one) (list_all item_stands items) known.1)

item_filled : (scopes : Scopes) (one : RawItem) → scopes.counts.variables ≡ 0 → item_stands one ≡ true →
    list_all body_filled (units_of scopes one) ≡ true
item_filled scopes (item.Struct def) none stands = refl
item_filled scopes (item.Constant constant) none stands = refl
item_filled scopes (item.Unit def) none stands = and_from (body_filled (named_unit scopes def)) true (unit_filled scopes def none stands) refl

pub units_are_filled : (items : List RawItem) (bytes : ℕ) → list_all item_stands items ≡ true →
    list_all body_filled (named_program items bytes).units ≡ true
units_are_filled items bytes stand = along_under Known units_of body_filled known_next
    (λ scopes one items known. item_filled scopes one known.0 (and_first (item_stands one) (list_all item_stands items) known.1)) file_scope items
    (refl, stand)
