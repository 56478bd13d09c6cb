-- Statements that were named in scopes that correspond.
use Rattle.std.proofs.Common.{◌≡◌, ℕ, Bool, List, [], ◌∷◌, ◌++◌, ◌+◌, arith, map, refl, ap, ap₂, subst, sym, ◌∙◌}
use Rattle.std.proofs.lemmas.List.{map-append}
use Rattle.std.specs.Prelude.{All, Option, Some, None, option_map}
use Rattle.bl_tree.specs.declared.place.Place.{Place}
use Rattle.bl_tree.specs.declared.tree.Guard.{Guard}
use Rattle.bl_tree.specs.declared.tree.Role.{Role}
use Rattle.bl_tree.specs.declared.tree.Role.TheVariants as role
use Rattle.bl_joined.specs.Trees.{placed_constant, placed_expr, placed_name, placed_path, placed_stmt, placed_target, placed_type}
use Rattle.bl_names.proofs.FitLemmas.{Fits, fits_behind, fits_first, fits_second}
use Rattle.bl_names.proofs.StillLemmas.{Still, still_append, still_arguments, still_expr, still_exprs, still_optional, still_target, still_type, still_use}
use Rattle.bl_names.specs.Named.{Piece, arm_piece, block_piece, branch_piece, constant_piece, constants_of_all, declaring, kind_piece, made_of_all}
use Rattle.bl_names.specs.Named.{marks_of_all, named_constant, named_var, none, opened, piece_of_arm, piece_of_branch, piece_of_kind, scoped, stmt_layer_piece}
use Rattle.bl_names.specs.Named.{stmt_piece, vars_of_all}
use Rattle.bl_names.specs.Naming.{named_expr, named_path, named_target, position}
use Rattle.bl_names_scopes.specs.declared.kind.Kind.{Kind}
use Rattle.bl_names_scopes.specs.declared.kind.Kind.TheVariants as kind
use Rattle.bl_names_scopes.specs.declared.kind.Wanted.TheVariants as wanted
use Rattle.bl_names_scopes.specs.Marks.{Marks, argument_marks, closes, constant_marks, declared_after, declares, expr_marks, in_scope, optional, path_marks}
use Rattle.bl_names_scopes.specs.Marks.{target_marks, type_marks, uses}
use Rattle.bl_names_scopes.specs.Scopes.{Scopes, after}
use Rattle.bl_names_scopes_laws_places.specs.Agree.{ScopesAgree, placed_marks}
use Rattle.bl_names_scopes_laws_places.proofs.MarksMoved.{after_moves, arguments_move, both, constant_moves, expr_moves, optional_moves, path_moves}
use Rattle.bl_names_scopes_laws_places.proofs.MarksMoved.{scope_moves, target_moves, type_moves}
use Rattle.bl_names_scopes_laws_places.proofs.RawStmts as stmts
use Rattle.bl_names_tree.specs.declared.expr.NamedExpr.{NamedExpr}
use Rattle.bl_names_tree.specs.declared.expr.NamedTarget.{NamedTarget}
use Rattle.bl_names_tree.specs.declared.item.NamedConstant.{NamedConstant}
use Rattle.bl_names_tree.specs.declared.item.NamedVar.{NamedVar}
use Rattle.bl_names_tree.specs.declared.stmt.NamedArm.{NamedArm, fold-NamedArm, fold-roll-NamedArm, roll-NamedArm}
use Rattle.bl_names_tree.specs.declared.stmt.NamedBranch.{NamedBranch, fold-NamedBranch, fold-roll-NamedBranch, roll-NamedBranch}
use Rattle.bl_names_tree.specs.declared.stmt.NamedPath.{NamedPath}
use Rattle.bl_names_tree.specs.declared.stmt.NamedStmt.{NamedStmt, fold-roll-NamedStmt, roll-NamedStmt}
use Rattle.bl_names_tree.specs.declared.stmt.NamedStmtKind.{NamedStmtKind, fold-NamedStmtKind, fold-roll-NamedStmtKind}
use Rattle.bl_names_tree.specs.declared.stmt.NamedStmtKind.TheVariants.{rolls-Declare, rolls-Const, rolls-Assign, rolls-Call, rolls-Await, rolls-Run, rolls-If}
use Rattle.bl_names_tree.specs.declared.stmt.NamedStmtKind.TheVariants.{rolls-Cobegin, rolls-When, rolls-Repeat, rolls-Until, rolls-While, rolls-Return}
use Rattle.bl_names_tree.specs.declared.stmt.NamedStmtKind.TheVariants as what
use Rattle.bl_parse_tree.specs.declared.expr.RawExpr.{RawExpr}
use Rattle.bl_parse_tree.specs.declared.expr.RawTarget.{RawTarget}
use Rattle.bl_parse_tree.specs.declared.name.Name.{Name}
use Rattle.bl_parse_tree.specs.declared.stmt.RawArm.{RawArm, fold-roll-RawArm, roll-RawArm}
use Rattle.bl_parse_tree.specs.declared.stmt.RawBranch.{RawBranch, fold-roll-RawBranch, roll-RawBranch}
use Rattle.bl_parse_tree.specs.declared.stmt.RawConstant.{RawConstant}
use Rattle.bl_parse_tree.specs.declared.stmt.RawPath.{RawPath}
use Rattle.bl_parse_tree.specs.declared.stmt.RawStmt.{RawStmt, fold-roll-RawStmt, roll-RawStmt}
use Rattle.bl_parse_tree.specs.declared.stmt.RawStmtKind.{RawStmtKind, fold-roll-RawStmtKind, roll-RawStmtKind}
use Rattle.bl_parse_tree.specs.declared.stmt.RawStmtKind.TheOpen.{RawStmtKind-F}
use Rattle.bl_parse_tree.specs.declared.types.RawType.{RawType}
use Rattle.bl_names_laws_places.specs.Renamed.{Renaming, renamed_action, renamed_arm, renamed_branch, renamed_constant, renamed_expr, renamed_path}
use Rattle.bl_names_laws_places.specs.Renamed.{renamed_stmt, renamed_stmt_layer, renamed_target, renamed_type, renamed_var}
use Rattle.bl_names_laws_places.proofs.Exprs.{expr_agrees, exprs_agree, optional_expr_agrees, optional_path_agrees, paths_agree, target_agrees}
use Rattle.bl_names_laws_places.proofs.Pieces.{Each, Keeps, PieceAgrees, all_agree, all_constants_agree, all_keep, all_made_agree, all_marks_agree}
use Rattle.bl_names_laws_places.proofs.Pieces.{all_vars_agree, inward, keeps_append, keeps_scope, keeps_still, onward, plain_agrees, scope_closed}
use Rattle.bl_names_laws_places.proofs.Positions.{fit_there, position_same}
use Rattle.bl_names_laws_places.proofs.Types.{optional_type_agrees, type_agrees}

-- nothing added
at_zero : (n : ℕ) → n + 0 ≡ n
at_zero n = omega arith

module _ (by : Renaming) where
  -- ---- a named statement, layer by layer

  -- what a statement does, with all places and constants changed
  abbrev acting : NamedStmtKind → NamedStmtKind
  acting =
      fold-NamedStmtKind NamedStmtKind NamedArm NamedBranch NamedStmt (renamed_action by) (renamed_arm by) renamed_branch (renamed_stmt_layer by)

  -- an arm with all places and constants changed
  abbrev pub arming : NamedArm → NamedArm
  arming = fold-NamedArm NamedStmtKind NamedArm NamedBranch NamedStmt (renamed_action by) (renamed_arm by) renamed_branch (renamed_stmt_layer by)

  -- a branch with all places and constants changed
  abbrev pub branching : NamedBranch → NamedBranch
  branching =
      fold-NamedBranch NamedStmtKind NamedArm NamedBranch NamedStmt (renamed_action by) (renamed_arm by) renamed_branch (renamed_stmt_layer by)

  declare_renamed : (k : ℕ) (value : Option NamedExpr) → acting (what.Declare k value) ≡ what.Declare k (option_map (renamed_expr by) value)
  declare_renamed k value = ap acting (sym (rolls-Declare k value)) ∙ rw fold-roll-NamedStmtKind refl

  const_renamed : (k : ℕ) → acting (what.Const k) ≡ what.Const (by.constant k)
  const_renamed k = ap acting (sym (rolls-Const k)) ∙ rw fold-roll-NamedStmtKind refl

  assign_renamed : (target : NamedTarget) (e : NamedExpr) →
      acting (what.Assign target e) ≡ what.Assign (renamed_target by target) (renamed_expr by e)
  assign_renamed target e = ap acting (sym (rolls-Assign target e)) ∙ rw fold-roll-NamedStmtKind refl

  call_renamed : (place : Place) (k : ℕ) (inputs : List NamedExpr) (outputs : List NamedPath) → acting (what.Call place k inputs outputs)
      ≡ what.Call (by.place place) k (map (renamed_expr by) inputs) (map (renamed_path by) outputs)
  call_renamed place k inputs outputs = ap acting (sym (rolls-Call place k inputs outputs)) ∙ rw fold-roll-NamedStmtKind refl

  await_renamed : (e : NamedExpr) → acting (what.Await e) ≡ what.Await (renamed_expr by e)
  await_renamed e = ap acting (sym (rolls-Await e)) ∙ rw fold-roll-NamedStmtKind refl

  run_renamed : (target : Option NamedPath) (place : Place) (k : ℕ) (inputs : List NamedExpr) (outputs : List NamedPath) →
      acting (what.Run target place k inputs outputs)
      ≡ what.Run (option_map (renamed_path by) target) (by.place place) k (map (renamed_expr by) inputs) (map (renamed_path by) outputs)
  run_renamed target place k inputs outputs = ap acting (sym (rolls-Run target place k inputs outputs)) ∙ rw fold-roll-NamedStmtKind refl

  if_renamed : (arms : List NamedArm) (other : List NamedStmt) →
      acting (what.If arms other) ≡ what.If (map arming arms) (map (renamed_stmt by) other)
  if_renamed arms other = ap acting (sym (rolls-If arms other)) ∙ rw fold-roll-NamedStmtKind refl

  cobegin_renamed : (branches : List NamedBranch) → acting (what.Cobegin branches) ≡ what.Cobegin (map branching branches)
  cobegin_renamed branches = ap acting (sym (rolls-Cobegin branches)) ∙ rw fold-roll-NamedStmtKind refl

  when_renamed : (guard : Guard) (e : NamedExpr) (body : List NamedStmt) →
      acting (what.When guard e body) ≡ what.When guard (renamed_expr by e) (map (renamed_stmt by) body)
  when_renamed guard e body = ap acting (sym (rolls-When guard e body)) ∙ rw fold-roll-NamedStmtKind refl

  repeat_renamed : (body : List NamedStmt) → acting (what.Repeat body) ≡ what.Repeat (map (renamed_stmt by) body)
  repeat_renamed body = ap acting (sym (rolls-Repeat body)) ∙ rw fold-roll-NamedStmtKind refl

  until_renamed : (body : List NamedStmt) (e : NamedExpr) →
      acting (what.Until body e) ≡ what.Until (map (renamed_stmt by) body) (renamed_expr by e)
  until_renamed body e = ap acting (sym (rolls-Until body e)) ∙ rw fold-roll-NamedStmtKind refl

  while_renamed : (e : NamedExpr) (body : List NamedStmt) →
      acting (what.While e body) ≡ what.While (renamed_expr by e) (map (renamed_stmt by) body)
  while_renamed e body = ap acting (sym (rolls-While e body)) ∙ rw fold-roll-NamedStmtKind refl

  return_renamed : (e : Option NamedExpr) → acting (what.Return e) ≡ what.Return (option_map (renamed_expr by) e)
  return_renamed e = ap acting (sym (rolls-Return e)) ∙ rw fold-roll-NamedStmtKind refl

  arm_renamed : (test : NamedExpr) (body : List NamedStmt) → arming (roll-NamedArm (record { test = test; body = body }))
      ≡ roll-NamedArm (record { test = renamed_expr by test; body = map (renamed_stmt by) body })
  arm_renamed test body = rw fold-roll-NamedArm refl

  branch_renamed : (weak : Bool) (body : List NamedStmt) → branching (roll-NamedBranch (record { weak = weak; body = body }))
      ≡ roll-NamedBranch (record { weak = weak; body = map (renamed_stmt by) body })
  branch_renamed weak body = rw fold-roll-NamedBranch refl

  stmt_renamed : (place : Place) (kind : NamedStmtKind) → renamed_stmt by (roll-NamedStmt (record { place = place; what = kind }))
      ≡ roll-NamedStmt (record { place = by.place place; what = acting kind })
  stmt_renamed place kind = rw fold-roll-NamedStmt refl

  -- ---- the parts of statements

  abbrev KindAgrees : RawStmtKind → Type 0
  KindAgrees kind = PieceAgrees by acting (piece_of_kind kind) (piece_of_kind (stmts.done by.place kind))

  abbrev ArmAgrees : RawArm → Type 0
  ArmAgrees arm = PieceAgrees by arming (piece_of_arm arm) (piece_of_arm (stmts.armed by.place arm))

  abbrev BranchAgrees : RawBranch → Type 0
  BranchAgrees branch = PieceAgrees by branching (piece_of_branch branch) (piece_of_branch (stmts.branched by.place branch))

  abbrev StmtAgrees : RawStmt → Type 0
  StmtAgrees s = PieceAgrees by (renamed_stmt by) (stmt_piece s) (stmt_piece (placed_stmt by.place s))

  -- a kind agrees where its layer does
  by_layer : (layer : stmts.Layer) →
      PieceAgrees by acting (piece_of_kind (roll-RawStmtKind layer)) (piece_of_kind (roll-RawStmtKind (stmts.done_layer by.place layer))) →
      KindAgrees (roll-RawStmtKind layer)
  by_layer layer h =
      subst (PieceAgrees by acting (piece_of_kind (roll-RawStmtKind layer))) (sym (ap piece_of_kind (stmts.done_is by.place layer))) h

  -- ---- declarations

  keeps_declared : (marks : Marks) (name : Name) (of : Kind) → Keeps marks → Keeps (declared_after marks name of)
  keeps_declared marks name of keeps = keeps_append marks (declares name of ∷ []) keeps (λ scopes. refl)

  pub var_agrees : (one other : Scopes) → ScopesAgree by.constant one other → (name : Name) (ty : Option RawType) (of : Role) →
      Fits one (optional type_marks ty) →
      named_var other (placed_name by.place name) (option_map (placed_type by.place) ty) of ≡ renamed_var by (named_var one name ty of)
  var_agrees one other agree name ty of fits =
      ap (λ t. record { name = placed_name by.place name; ty = t; role = of }) (optional_type_agrees by one other agree one.counts ty fits)

  pub constant_agrees : (one other : Scopes) → ScopesAgree by.constant one other → (constant : RawConstant) → Fits one (constant_marks constant) →
      named_constant other (placed_constant by.place constant) ≡ renamed_constant by (named_constant one constant)
  constant_agrees one other agree constant fits =
      let inside : Fits one (optional type_marks constant.ty ++ expr_marks constant.value) =
      fits_first one (optional type_marks constant.ty ++ expr_marks constant.value) (declares constant.name kind.Constant ∷ []) fits in
      ap₂ (λ t v. record { name = placed_name by.place constant.name; ty = t; value = v })
      (optional_type_agrees by one other agree one.counts constant.ty
      (fits_first one (optional type_marks constant.ty) (expr_marks constant.value) inside))
      (expr_agrees by one other agree one.counts constant.value
      (fits_behind one (optional type_marks constant.ty) (expr_marks constant.value) (still_optional type_marks constant.ty still_type) inside))

  -- a declaration with its next position
  declaring_agrees : (name : Name) (ty : Option RawType) (of : Role) (value : Option RawExpr) (near far : Marks) →
      far ≡ placed_marks by.place near → Keeps near → ((one : Scopes) → Fits one near → Fits one (optional type_marks ty)) →
      ((one : Scopes) → Fits one near → Fits one (optional expr_marks value)) →
      PieceAgrees by acting (declaring name ty of value near)
      (declaring (placed_name by.place name) (option_map (placed_type by.place) ty) of (option_map (placed_expr by.place) value) far)
  declaring_agrees name ty of value near far is keeps type_fits value_fits = record {
    marks = is;
    keeps = keeps;
    made = λ one other agree fits.
        ap₂ what.Declare agree.variables (optional_expr_agrees by one other agree one.counts value (value_fits one fits))
        ∙ sym (declare_renamed one.counts.variables (option_map (named_expr one) value));
    vars = λ one other agree fits. ap (λ var. var ∷ []) (var_agrees one other agree name ty of (type_fits one fits));
    constants = λ one other agree fits. refl;
  }

  -- the parts of the marks of a declaration
  module _ (ty : Option RawType) (rest : Marks) (still : Still rest) (name : Name) (of : Kind) where
    abbrev whole : Marks
    whole = declared_after (optional type_marks ty ++ rest) name of

    of_type : (one : Scopes) → Fits one whole → Fits one (optional type_marks ty)
    of_type one fits =
        fits_first one (optional type_marks ty) rest (fits_first one (optional type_marks ty ++ rest) (declares name of ∷ []) fits)

    of_rest : (one : Scopes) → Fits one whole → Fits one rest
    of_rest one fits =
        fits_behind one (optional type_marks ty) rest (still_optional type_marks ty still_type)
        (fits_first one (optional type_marks ty ++ rest) (declares name of ∷ []) fits)

    keeps_whole : Keeps whole
    keeps_whole =
        keeps_declared (optional type_marks ty ++ rest) name of
        (keeps_still (optional type_marks ty ++ rest) (still_append (optional type_marks ty) rest (still_optional type_marks ty still_type) still))

    whole_moves : (moved : Marks) → moved ≡ placed_marks by.place rest →
        declared_after (optional type_marks (option_map (placed_type by.place) ty) ++ moved) (placed_name by.place name) of
        ≡ placed_marks by.place whole
    whole_moves moved is =
        after_moves by.place _ (optional type_marks ty ++ rest) name of
        (both by.place _ _ (optional type_marks ty) rest (optional_moves by.place type_marks (placed_type by.place) (type_moves by.place) ty) is)

  var_declares : (name : Name) (ty : Option RawType) (value : Option RawExpr) → KindAgrees (roll-RawStmtKind (RawStmtKind-F.Var name ty value))
  var_declares name ty value =
      by_layer (RawStmtKind-F.Var name ty value)
      (simp fold-roll-RawStmtKind
      (declaring_agrees name ty role.Variable value _ _
      (whole_moves ty (optional expr_marks value) (still_optional expr_marks value still_expr) name kind.Variable _
      (optional_moves by.place expr_marks (placed_expr by.place) (expr_moves by.place) value))
      (keeps_whole ty (optional expr_marks value) (still_optional expr_marks value still_expr) name kind.Variable)
      (of_type ty (optional expr_marks value) (still_optional expr_marks value still_expr) name kind.Variable)
      (of_rest ty (optional expr_marks value) (still_optional expr_marks value still_expr) name kind.Variable)))

  let_declares : (name : Name) (ty : Option RawType) (value : RawExpr) → KindAgrees (roll-RawStmtKind (RawStmtKind-F.Let name ty value))
  let_declares name ty value =
      by_layer (RawStmtKind-F.Let name ty value)
      (simp fold-roll-RawStmtKind
      (declaring_agrees name ty role.Fixed (Some value) _ _
      (whole_moves ty (expr_marks value) (still_expr value) name kind.Variable _ (expr_moves by.place value))
      (keeps_whole ty (expr_marks value) (still_expr value) name kind.Variable)
      (of_type ty (expr_marks value) (still_expr value) name kind.Variable)
      (of_rest ty (expr_marks value) (still_expr value) name kind.Variable)))

  const_declares : (constant : RawConstant) → KindAgrees (roll-RawStmtKind (RawStmtKind-F.Const constant))
  const_declares constant =
      by_layer (RawStmtKind-F.Const constant)
      (simp fold-roll-RawStmtKind (record {
        marks = constant_moves by.place constant;
        keeps = keeps_whole constant.ty (expr_marks constant.value) (still_expr constant.value) constant.name kind.Constant;
        made = λ one other agree fits.
            ap what.Const (sym (at_zero other.counts.constants) ∙ sym (agree.constants 0) ∙ ap by.constant (at_zero one.counts.constants))
            ∙ sym (const_renamed one.counts.constants);
        vars = λ one other agree fits. refl;
        constants = λ one other agree fits. ap (λ c. c ∷ []) (constant_agrees one other agree constant fits);
      }))

  -- ---- statements without blocks

  assign_agrees : (target : RawTarget) (e : RawExpr) → KindAgrees (roll-RawStmtKind (RawStmtKind-F.Assign target e))
  assign_agrees target e =
      by_layer (RawStmtKind-F.Assign target e)
      (simp fold-roll-RawStmtKind
      (plain_agrees by acting (target_marks target wanted.Variable ++ expr_marks e) _ _ _
      (both by.place _ _ (target_marks target wanted.Variable) (expr_marks e) (target_moves by.place target wanted.Variable) (expr_moves by.place e))
      (still_append (target_marks target wanted.Variable) (expr_marks e) (still_target target wanted.Variable) (still_expr e))
      (λ one other agree fits.
      ap₂ what.Assign
      (target_agrees by one other agree one.counts target wanted.Variable (fits_first one (target_marks target wanted.Variable) (expr_marks e) fits))
      (expr_agrees by one other agree one.counts e
      (fits_behind one (target_marks target wanted.Variable) (expr_marks e) (still_target target wanted.Variable) fits))
      ∙ sym (assign_renamed (named_target one target) (named_expr one e)))))

  -- the arguments of a call or `run`
  module _ (inputs : List RawExpr) (outputs : List RawPath) (one other : Scopes) (agree : ScopesAgree by.constant one other)
      (fits : Fits one (argument_marks inputs outputs)) where
    inputs_agree : map (named_expr other) (map (placed_expr by.place) inputs) ≡ map (renamed_expr by) (map (named_expr one) inputs)
    inputs_agree = exprs_agree by one other agree one.counts inputs (fits_first one _ _ fits)

    outputs_agree : map (named_path other) (map (placed_path by.place) outputs) ≡ map (renamed_path by) (map (named_path one) outputs)
    outputs_agree = paths_agree by one other agree one.counts outputs (fits_behind one _ _ (still_exprs inputs) fits)

  call_agrees : (callee : Name) (inputs : List RawExpr) (outputs : List RawPath) →
      KindAgrees (roll-RawStmtKind (RawStmtKind-F.Call callee inputs outputs))
  call_agrees callee inputs outputs =
      by_layer (RawStmtKind-F.Call callee inputs outputs)
      (simp fold-roll-RawStmtKind
      (plain_agrees by acting (uses callee wanted.Function ∷ argument_marks inputs outputs) _ _ _
      (ap (λ xs. uses (placed_name by.place callee) wanted.Function ∷ xs) (arguments_move by.place inputs outputs))
      (still_append (uses callee wanted.Function ∷ []) (argument_marks inputs outputs) (still_use callee wanted.Function) (still_arguments inputs outputs))
      (λ one other agree fits.
      (λ i. what.Call (by.place callee.place) (position_same by one other agree callee wanted.Function refl fits.0 i)
      (inputs_agree inputs outputs one other agree fits.1 i) (outputs_agree inputs outputs one other agree fits.1 i))
      ∙ sym (call_renamed callee.place (position one callee) (map (named_expr one) inputs) (map (named_path one) outputs)))))

  await_agrees : (e : RawExpr) → KindAgrees (roll-RawStmtKind (RawStmtKind-F.Await e))
  await_agrees e =
      by_layer (RawStmtKind-F.Await e)
      (simp fold-roll-RawStmtKind
      (plain_agrees by acting (expr_marks e) _ _ _ (expr_moves by.place e) (still_expr e)
      (λ one other agree fits. ap what.Await (expr_agrees by one other agree one.counts e fits) ∙ sym (await_renamed (named_expr one e)))))

  still_path : (path : RawPath) → Still (path_marks path)
  still_path path = still_use path.root wanted.Variable

  run_agrees : (target : Option RawPath) (callee : Name) (inputs : List RawExpr) (outputs : List RawPath) →
      KindAgrees (roll-RawStmtKind (RawStmtKind-F.Run target callee inputs outputs))
  run_agrees target callee inputs outputs =
      by_layer (RawStmtKind-F.Run target callee inputs outputs)
      (simp fold-roll-RawStmtKind
      (plain_agrees by acting (optional path_marks target ++ (uses callee wanted.Activity ∷ argument_marks inputs outputs)) _ _ _
      (both by.place _ _ (optional path_marks target) (uses callee wanted.Activity ∷ argument_marks inputs outputs)
      (optional_moves by.place path_marks (placed_path by.place) (path_moves by.place) target)
      (ap (λ xs. uses (placed_name by.place callee) wanted.Activity ∷ xs) (arguments_move by.place inputs outputs)))
      (still_append (optional path_marks target) (uses callee wanted.Activity ∷ argument_marks inputs outputs)
      (still_optional path_marks target still_path)
      (still_append (uses callee wanted.Activity ∷ []) (argument_marks inputs outputs) (still_use callee wanted.Activity) (still_arguments inputs outputs)))
      (λ one other agree fits.
      let called = fits_behind one (optional path_marks target) (uses callee wanted.Activity ∷ argument_marks inputs outputs)
      (still_optional path_marks target still_path) fits in
      (λ i. what.Run
      (optional_path_agrees by one other agree one.counts target
      (fits_first one (optional path_marks target) (uses callee wanted.Activity ∷ argument_marks inputs outputs) fits) i) (by.place callee.place)
      (position_same by one other agree callee wanted.Activity refl called.0 i) (inputs_agree inputs outputs one other agree called.1 i)
      (outputs_agree inputs outputs one other agree called.1 i))
      ∙ sym (run_renamed (option_map (named_path one) target) callee.place (position one callee) (map (named_expr one) inputs)
      (map (named_path one) outputs)))))

  return_agrees : (e : Option RawExpr) → KindAgrees (roll-RawStmtKind (RawStmtKind-F.Return e))
  return_agrees e =
      by_layer (RawStmtKind-F.Return e)
      (simp fold-roll-RawStmtKind
      (plain_agrees by acting (optional expr_marks e) _ _ _ (optional_moves by.place expr_marks (placed_expr by.place) (expr_moves by.place) e)
      (still_optional expr_marks e still_expr)
      (λ one other agree fits.
      ap what.Return (optional_expr_agrees by one other agree one.counts e fits) ∙ sym (return_renamed (option_map (named_expr one) e)))))

  -- ---- blocks

  abbrev blocks : List RawStmt → List (Piece NamedStmt)
  blocks body = map stmt_piece body

  abbrev EachStmt : List RawStmt → Type 0
  EachStmt body = Each by stmt_piece (placed_stmt by.place) (renamed_stmt by) body

  abbrev block_marks : List RawStmt → Marks
  block_marks body = marks_of_all (blocks body)

  abbrev moved_body : List RawStmt → List RawStmt
  moved_body body = map (placed_stmt by.place) body

  -- a block in a scope of its own, after marks that leave the scopes
  module _ (body : List RawStmt) (each : EachStmt body) (before : Marks) (moved_before : Marks) (is : moved_before ≡ placed_marks by.place before)
      (one other : Scopes) (agree : ScopesAgree by.constant one other) (fits : Fits (opened (after one before)) (block_marks body)) where
    inside : ScopesAgree by.constant (opened (after one before)) (opened (after other moved_before))
    inside = inward by (after one before) (after other moved_before) (onward by one other agree before moved_before is)

    body_made : made_of_all (blocks (moved_body body)) (opened (after other moved_before))
        ≡ map (renamed_stmt by) (made_of_all (blocks body) (opened (after one before)))
    body_made = all_made_agree by stmt_piece (placed_stmt by.place) (renamed_stmt by) body each _ _ inside fits

    body_vars : vars_of_all (blocks (moved_body body)) (opened (after other moved_before))
        ≡ map (renamed_var by) (vars_of_all (blocks body) (opened (after one before)))
    body_vars = all_vars_agree by stmt_piece (placed_stmt by.place) (renamed_stmt by) body each _ _ inside fits

    body_constants : constants_of_all (blocks (moved_body body)) (opened (after other moved_before))
        ≡ map (renamed_constant by) (constants_of_all (blocks body) (opened (after one before)))
    body_constants = all_constants_agree by stmt_piece (placed_stmt by.place) (renamed_stmt by) body each _ _ inside fits

  block_marks_move : (body : List RawStmt) → EachStmt body → block_marks (moved_body body) ≡ placed_marks by.place (block_marks body)
  block_marks_move body each = all_marks_agree by stmt_piece (placed_stmt by.place) (renamed_stmt by) body each

  block_keeps : (body : List RawStmt) → EachStmt body → Keeps (block_marks body)
  block_keeps body each = all_keep by stmt_piece (placed_stmt by.place) (renamed_stmt by) body each

  -- the marks of a block that stands in a scope of its own
  in_block : (scopes : Scopes) (marks : Marks) → Fits scopes (in_scope marks) → Fits (opened scopes) marks
  in_block scopes marks fits = fits_first (opened scopes) marks (closes ∷ []) fits.1

  -- an expression, and then a block
  headed_agrees : {A : Type 0} (renamed : A → A) (e : RawExpr) (body : List RawStmt) → EachStmt body →
      (near_made far_made : Scopes → List NamedStmt → A) →
      ((one other : Scopes) (made : List NamedStmt) → ScopesAgree by.constant one other → Fits one (expr_marks e) →
      far_made other (map (renamed_stmt by) made) ≡ renamed (near_made one made)) →
      PieceAgrees by renamed (scoped (expr_marks e) (expr_marks e ++ in_scope (block_marks body)) (blocks body) near_made)
      (scoped (expr_marks (placed_expr by.place e)) (expr_marks (placed_expr by.place e) ++ in_scope (block_marks (moved_body body)))
      (blocks (moved_body body)) far_made)
  headed_agrees renamed e body each near_made far_made made = record {
    marks = both by.place _ _ (expr_marks e) (in_scope (block_marks body)) (expr_moves by.place e)
        (scope_moves by.place _ (block_marks body) (block_marks_move body each));
    keeps = keeps_append (expr_marks e) (in_scope (block_marks body)) (keeps_still (expr_marks e) (still_expr e))
        (keeps_scope (block_marks body) (block_keeps body each));
    made = λ one other agree fits.
        ap (far_made other) (body_made body each (expr_marks e) _ (expr_moves by.place e) one other agree (inner one fits))
        ∙ made one other (made_of_all (blocks body) (opened (after one (expr_marks e)))) agree
        (fits_first one (expr_marks e) (in_scope (block_marks body)) fits);
    vars = λ one other agree fits. body_vars body each (expr_marks e) _ (expr_moves by.place e) one other agree (inner one fits);
    constants = λ one other agree fits. body_constants body each (expr_marks e) _ (expr_moves by.place e) one other agree (inner one fits);
  }
    where
      inner : (one : Scopes) → Fits one (expr_marks e ++ in_scope (block_marks body)) → Fits (opened (after one (expr_marks e))) (block_marks body)
      inner one fits =
          in_block (after one (expr_marks e)) (block_marks body) (fits_second one (expr_marks e) (in_scope (block_marks body)) fits)

  when_agrees : (guard : Guard) (e : RawExpr) (body : List RawStmt) → EachStmt body →
      KindAgrees (roll-RawStmtKind (RawStmtKind-F.When guard e body))
  when_agrees guard e body each =
      by_layer (RawStmtKind-F.When guard e body)
      (simp fold-roll-RawStmtKind
      (headed_agrees acting e body each (λ scopes made. what.When guard (named_expr scopes e) made)
      (λ scopes made. what.When guard (named_expr scopes (placed_expr by.place e)) made)
      (λ one other made agree fits.
      ap (λ x. what.When guard x (map (renamed_stmt by) made)) (expr_agrees by one other agree one.counts e fits)
      ∙ sym (when_renamed guard (named_expr one e) made))))

  while_agrees : (e : RawExpr) (body : List RawStmt) → EachStmt body → KindAgrees (roll-RawStmtKind (RawStmtKind-F.While e body))
  while_agrees e body each =
      by_layer (RawStmtKind-F.While e body)
      (simp fold-roll-RawStmtKind
      (headed_agrees acting e body each (λ scopes made. what.While (named_expr scopes e) made)
      (λ scopes made. what.While (named_expr scopes (placed_expr by.place e)) made)
      (λ one other made agree fits.
      ap (λ x. what.While x (map (renamed_stmt by) made)) (expr_agrees by one other agree one.counts e fits)
      ∙ sym (while_renamed (named_expr one e) made))))

  arm_agrees : (test : RawExpr) (body : List RawStmt) → EachStmt body → ArmAgrees (roll-RawArm (record { test = test; body = body }))
  arm_agrees test body each =
      subst (PieceAgrees by arming (piece_of_arm (roll-RawArm (record { test = test; body = body }))))
      (sym (ap piece_of_arm (stmts.arm_is by.place test body)))
      (simp fold-roll-RawArm
      (headed_agrees arming test body each (λ scopes made. roll-NamedArm (record { test = named_expr scopes test; body = made }))
      (λ scopes made. roll-NamedArm (record { test = named_expr scopes (placed_expr by.place test); body = made }))
      (λ one other made agree fits.
      ap (λ x. roll-NamedArm (record { test = x; body = map (renamed_stmt by) made })) (expr_agrees by one other agree one.counts test fits)
      ∙ sym (arm_renamed (named_expr one test) made))))

  -- a block alone
  alone_agrees : {A : Type 0} (renamed : A → A) (body : List RawStmt) → EachStmt body → (near_made far_made : Scopes → List NamedStmt → A) →
      ((one other : Scopes) (made : List NamedStmt) → far_made other (map (renamed_stmt by) made) ≡ renamed (near_made one made)) →
      PieceAgrees by renamed (scoped [] (in_scope (block_marks body)) (blocks body) near_made)
      (scoped [] (in_scope (block_marks (moved_body body))) (blocks (moved_body body)) far_made)
  alone_agrees renamed body each near_made far_made made = record {
    marks = scope_moves by.place _ (block_marks body) (block_marks_move body each);
    keeps = keeps_scope (block_marks body) (block_keeps body each);
    made = λ one other agree fits.
        ap (far_made other) (body_made body each [] [] refl one other agree (in_block one (block_marks body) fits))
        ∙ made one other (made_of_all (blocks body) (opened one));
    vars = λ one other agree fits. body_vars body each [] [] refl one other agree (in_block one (block_marks body) fits);
    constants = λ one other agree fits. body_constants body each [] [] refl one other agree (in_block one (block_marks body) fits);
  }

  repeat_agrees : (body : List RawStmt) → EachStmt body → KindAgrees (roll-RawStmtKind (RawStmtKind-F.Repeat body))
  repeat_agrees body each =
      by_layer (RawStmtKind-F.Repeat body)
      (simp fold-roll-RawStmtKind
      (alone_agrees acting body each (λ scopes made. what.Repeat made) (λ scopes made. what.Repeat made)
      (λ one other made. sym (repeat_renamed made))))

  branch_agrees : (weak : Bool) (body : List RawStmt) → EachStmt body → BranchAgrees (roll-RawBranch (record { weak = weak; body = body }))
  branch_agrees weak body each =
      subst (PieceAgrees by branching (piece_of_branch (roll-RawBranch (record { weak = weak; body = body }))))
      (sym (ap piece_of_branch (stmts.branch_is by.place weak body)))
      (simp fold-roll-RawBranch
      (alone_agrees branching body each (λ scopes made. roll-NamedBranch (record { weak = weak; body = made }))
      (λ scopes made. roll-NamedBranch (record { weak = weak; body = made })) (λ one other made. sym (branch_renamed weak made))))

  until_agrees : (body : List RawStmt) (e : RawExpr) → EachStmt body → KindAgrees (roll-RawStmtKind (RawStmtKind-F.Until body e))
  until_agrees body e each =
      by_layer (RawStmtKind-F.Until body e)
      (simp fold-roll-RawStmtKind (record {
        marks = both by.place _ _ (in_scope (block_marks body)) (expr_marks e)
            (scope_moves by.place _ (block_marks body) (block_marks_move body each)) (expr_moves by.place e);
        keeps = keeps_append (in_scope (block_marks body)) (expr_marks e) (keeps_scope (block_marks body) (block_keeps body each))
            (keeps_still (expr_marks e) (still_expr e));
        made = λ one other agree fits.
            ap₂ what.Until (body_made body each [] [] refl one other agree (inner one fits))
            (expr_agrees by one other agree (after (opened one) (block_marks body)).counts e
            (subst (λ s. Fits s (expr_marks e)) (scope_closed one (block_marks body) (block_keeps body each))
            (fits_second one (in_scope (block_marks body)) (expr_marks e) fits)))
            ∙ sym (until_renamed (made_of_all (blocks body) (opened one)) (named_expr one e));
        vars = λ one other agree fits. body_vars body each [] [] refl one other agree (inner one fits);
        constants = λ one other agree fits. body_constants body each [] [] refl one other agree (inner one fits);
      }))
    where
      inner : (one : Scopes) → Fits one (in_scope (block_marks body) ++ expr_marks e) → Fits (opened one) (block_marks body)
      inner one fits = in_block one (block_marks body) (fits_first one (in_scope (block_marks body)) (expr_marks e) fits)

  -- ---- branching

  abbrev EachArm : List RawArm → Type 0
  EachArm arms = Each by piece_of_arm (stmts.armed by.place) arming arms

  abbrev arm_marks : List RawArm → Marks
  arm_marks arms = marks_of_all (map piece_of_arm arms)

  if_agrees : (arms : List RawArm) (other_body : List RawStmt) → EachArm arms → EachStmt other_body →
      KindAgrees (roll-RawStmtKind (RawStmtKind-F.If arms other_body))
  if_agrees arms body arms_agree each =
      by_layer (RawStmtKind-F.If arms body)
      (simp fold-roll-RawStmtKind (record {
        marks = both by.place _ _ (arm_marks arms) (in_scope (block_marks body)) moves
            (scope_moves by.place _ (block_marks body) (block_marks_move body each));
        keeps = keeps_append (arm_marks arms) (in_scope (block_marks body)) (all_keep by piece_of_arm (stmts.armed by.place) arming arms arms_agree)
            (keeps_scope (block_marks body) (block_keeps body each));
        made = λ one other agree fits.
            ap₂ what.If
            (all_made_agree by piece_of_arm (stmts.armed by.place) arming arms arms_agree one other agree (first one fits))
            (body_made body each (arm_marks arms) _ moves one other agree (inner one fits))
            ∙ sym (if_renamed (made_of_all (map piece_of_arm arms) one) (made_of_all (blocks body) (opened (after one (arm_marks arms)))));
        vars = λ one other agree fits.
            ap₂ (λ xs ys. xs ++ ys)
            (all_vars_agree by piece_of_arm (stmts.armed by.place) arming arms arms_agree one other agree (first one fits))
            (body_vars body each (arm_marks arms) _ moves one other agree (inner one fits))
            ∙ sym (map-append (renamed_var by) (vars_of_all (map piece_of_arm arms) one)
            (vars_of_all (blocks body) (opened (after one (arm_marks arms)))));
        constants = λ one other agree fits.
            ap₂ (λ xs ys. xs ++ ys)
            (all_constants_agree by piece_of_arm (stmts.armed by.place) arming arms arms_agree one other agree (first one fits))
            (body_constants body each (arm_marks arms) _ moves one other agree (inner one fits))
            ∙ sym (map-append (renamed_constant by) (constants_of_all (map piece_of_arm arms) one)
            (constants_of_all (blocks body) (opened (after one (arm_marks arms)))));
      }))
    where
      moves : arm_marks (map (stmts.armed by.place) arms) ≡ placed_marks by.place (arm_marks arms)
      moves = all_marks_agree by piece_of_arm (stmts.armed by.place) arming arms arms_agree

      first : (one : Scopes) → Fits one (arm_marks arms ++ in_scope (block_marks body)) → Fits one (arm_marks arms)
      first one fits = fits_first one (arm_marks arms) (in_scope (block_marks body)) fits

      inner : (one : Scopes) → Fits one (arm_marks arms ++ in_scope (block_marks body)) → Fits (opened (after one (arm_marks arms))) (block_marks body)
      inner one fits =
          in_block (after one (arm_marks arms)) (block_marks body) (fits_second one (arm_marks arms) (in_scope (block_marks body)) fits)

  abbrev EachBranch : List RawBranch → Type 0
  EachBranch branches = Each by piece_of_branch (stmts.branched by.place) branching branches

  cobegin_agrees : (branches : List RawBranch) → EachBranch branches → KindAgrees (roll-RawStmtKind (RawStmtKind-F.Cobegin branches))
  cobegin_agrees branches each =
      by_layer (RawStmtKind-F.Cobegin branches)
      (simp fold-roll-RawStmtKind (record {
        marks = all_marks_agree by piece_of_branch (stmts.branched by.place) branching branches each;
        keeps = all_keep by piece_of_branch (stmts.branched by.place) branching branches each;
        made = λ one other agree fits.
            ap what.Cobegin (all_made_agree by piece_of_branch (stmts.branched by.place) branching branches each one other agree fits)
            ∙ sym (cobegin_renamed (made_of_all (map piece_of_branch branches) one));
        vars = all_vars_agree by piece_of_branch (stmts.branched by.place) branching branches each;
        constants = all_constants_agree by piece_of_branch (stmts.branched by.place) branching branches each;
      }))

  -- ---- all statements

  stmt_agrees_at : (place : Place) (kind : RawStmtKind) → KindAgrees kind → StmtAgrees (roll-RawStmt (record { place = place; what = kind }))
  stmt_agrees_at place kind h =
      subst (PieceAgrees by (renamed_stmt by) (stmt_piece (roll-RawStmt (record { place = place; what = kind }))))
      (sym (ap stmt_piece (stmts.stmt_is by.place place kind)))
      (simp fold-roll-RawStmt (record {
        marks = h.marks;
        keeps = h.keeps;
        made = λ one other agree fits.
            ap (λ x. roll-NamedStmt (record { place = by.place place; what = x })) (h.made one other agree fits)
            ∙ sym (stmt_renamed place ((piece_of_kind kind).made one));
        vars = h.vars;
        constants = h.constants;
      }))

  stmt_cases : stmts.Cases KindAgrees ArmAgrees BranchAgrees StmtAgrees
  stmt_cases = record {
    var = var_declares;
    fixed = let_declares;
    constant = const_declares;
    assign = assign_agrees;
    call = call_agrees;
    await = await_agrees;
    run = run_agrees;
    branching = if_agrees;
    cobegin = cobegin_agrees;
    guarded = when_agrees;
    repeat = repeat_agrees;
    until = until_agrees;
    while = while_agrees;
    returns = return_agrees;
    arm = arm_agrees;
    branch = branch_agrees;
    stmt = stmt_agrees_at;
  }

  pub stmt_agrees : (s : RawStmt) → PieceAgrees by (renamed_stmt by) (stmt_piece s) (stmt_piece (placed_stmt by.place s))
  stmt_agrees = stmts.induct_stmt KindAgrees ArmAgrees BranchAgrees StmtAgrees stmt_cases

  pub block_agrees : (body : List RawStmt) → PieceAgrees by (map (renamed_stmt by)) (block_piece body) (block_piece (map (placed_stmt by.place) body))
  block_agrees body = all_agree by stmt_piece (placed_stmt by.place) (renamed_stmt by) body (λ k d less. stmt_agrees _)
