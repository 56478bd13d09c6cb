-- Statements are named as their types want it, where every use fits.
use Rattle.std.proofs.Common.{◌≡◌, Bool, true, ◌&&◌, ◌||◌, List, [], ◌∷◌, ◌++◌, map, Option, Some, None, refl, sym, ap, subst, ◌∙◌}
use Rattle.std.specs.Prelude.{All, is_some, option_map, slice_get}
use Rattle.std.proofs.lemmas.List.Elements.{All-head, All-tail}
use Rattle.std.proofs.lemmas.Bool.{and_from}
use Rattle.bl_tree.proofs.Basics.{and_first, and_second}
use Rattle.bl_tree.specs.declared.place.Place.{Place}
use Rattle.bl_tree.specs.declared.tree.Role.{Role}
use Rattle.bl_tree.specs.declared.tree.Role.TheVariants as role
use Rattle.bl_tree.specs.declared.tree.Unit.{Unit as UnitDef}
use Rattle.bl_tree.specs.declared.tree.UnitKind.{UnitKind}
use Rattle.bl_tree.specs.Reduce.{all_of, joined}
use Rattle.bl_tree.specs.Typing.{is_inhabited}
use Rattle.bl_names_tree.specs.declared.item.NamedConstant.{NamedConstant}
use Rattle.bl_names_tree.specs.declared.item.NamedVar.{NamedVar}
use Rattle.bl_names_tree.specs.declared.stmt.NamedArm.{NamedArm, fold-roll-NamedArm, roll-NamedArm}
use Rattle.bl_names_tree.specs.declared.stmt.NamedBranch.{NamedBranch, fold-roll-NamedBranch, roll-NamedBranch}
use Rattle.bl_names_tree.specs.declared.stmt.NamedStmt.{NamedStmt, fold-roll-NamedStmt, roll-NamedStmt}
use Rattle.bl_names_tree.specs.declared.stmt.NamedStmtKind.{NamedStmtKind, fold-NamedStmtKind, fold_out-NamedStmtKind, map-NamedStmtKind, out-NamedStmtKind}
use Rattle.bl_names_tree.specs.declared.stmt.NamedStmtKind.TheOpen.{NamedStmtKind-F}
use Rattle.bl_names_tree.specs.declared.stmt.NamedStmtKind.TheVariants as what
use Rattle.bl_names_tree.specs.Placed.{holds_if, holds_of}
use Rattle.bl_names_scopes.specs.declared.kind.Kind.TheVariants as kind
use Rattle.bl_names_scopes.specs.declared.kind.Wanted.TheVariants as wanted
use Rattle.bl_names_scopes.specs.Marks.{argument_marks, closes, declares, expr_marks, in_scope, optional, path_marks, target_marks, type_marks, uses}
use Rattle.bl_names_scopes.specs.Scopes.{Scopes, after, enter}
use Rattle.bl_parse_tree.specs.declared.expr.RawExpr.{RawExpr}
use Rattle.bl_parse_tree.specs.declared.name.Name.{Name}
use Rattle.bl_parse_tree.specs.declared.stmt.RawArm.{RawArm, fold-RawArm, fold-roll-RawArm, roll-RawArm}
use Rattle.bl_parse_tree.specs.declared.stmt.RawBranch.{RawBranch, fold-RawBranch, fold-roll-RawBranch, roll-RawBranch}
use Rattle.bl_parse_tree.specs.declared.stmt.RawConstant.{RawConstant}
use Rattle.bl_parse_tree.specs.declared.stmt.RawPath.{RawPath}
use Rattle.bl_parse_tree.specs.declared.stmt.RawStmt.{RawStmt, fold-roll-RawStmt}
use Rattle.bl_parse_tree.specs.declared.stmt.RawStmtKind.{RawStmtKind, fold-RawStmtKind, fold-roll-RawStmtKind, map-RawStmtKind}
use Rattle.bl_parse_tree.specs.declared.stmt.RawStmtKind.TheOpen.{RawStmtKind-F}
use Rattle.bl_parse_tree.specs.declared.types.RawType.{RawType}
use Rattle.bl_parse_tree.specs.Names.{arm_stands, branch_stands, expr_named, is_filled, named, optional as if_there, stmt_kind_stands, stmt_layer_stands}
use Rattle.bl_parse_tree.specs.Names.{stmt_stands, type_named}
use Rattle.bl_names.specs.Named.{Piece, all, constant_piece, kind_piece, made_of_all, marks_of_all, named_constant, named_var, opened}
use Rattle.bl_names.specs.Named.{own_scope, piece_of_arm, piece_of_branch, plain, stmt_layer_piece, stmt_piece}
use Rattle.bl_names.specs.Naming.{named_expr, named_path, named_target, position}
use Rattle.bl_names.proofs.FitLemmas.{Fits, fits_behind, fits_first, fits_second}
use Rattle.bl_names.proofs.PastLemmas.{enter-behind}
use Rattle.bl_names.proofs.PieceLemmas.{parts}
use Rattle.bl_names.proofs.PlacedStmt.{Within, within_first, within_one, within_second}
use Rattle.bl_names.proofs.RawStmtInduction.{Cases, induct, stmt}
use Rattle.bl_names.proofs.StillLemmas.{Still, after-append, still_append, still_arguments, still_expr, still_optional, still_target, still_type, still_use}
use Rattle.bl_names.proofs.StillLemmas.{still_value}
use Rattle.bl_types_laws.specs.Standing.{arm_named, branch_named, declared_by, kind_named, stmt_layer_named, stmt_named}
use Rattle.bl_types_laws.specs.Within.{calls_functions}
use Rattle.bl_types_laws.specs.inner.Named.{named_arm, named_branch}
use Rattle.bl_types_laws.proofs.ExprCalls.{activity_is, expr_is, exprs_are, function_is, optional_is, target_is}
use Rattle.bl_types_laws.proofs.Suits.{Suits, scope_is, suits_closed, suits_constant, suits_none, suits_so, suits_still, suits_then, suits_variable}
use Rattle.bl_types_laws.proofs.Suits.{told_opened}
use Rattle.bl_types_laws.proofs.Told.{Told, kinds_of}
use Rattle.bl_names.proofs.PieceLemmas.{arm_is, branch_is}

abbrev RawLayer : Type 0
RawLayer = RawStmtKind-F RawStmtKind RawArm RawBranch RawStmt

abbrev Layer : Type 0
Layer = NamedStmtKind-F NamedStmtKind NamedArm NamedBranch NamedStmt

-- ---- what is made, and what stands in it

stmt_is : (place : Place) (layer : RawLayer) → stmt_piece (stmt place layer) ≡ stmt_layer_piece (record { place = place; what = kind_piece (parts layer) })
stmt_is place layer = rw (fold-roll-RawStmt, fold-roll-RawStmtKind) refl

abbrev pub arm_filled : RawArm → Bool
arm_filled = fold-RawArm Bool Bool Bool Bool stmt_kind_stands arm_stands branch_stands stmt_layer_stands

abbrev pub branch_filled : RawBranch → Bool
branch_filled = fold-RawBranch Bool Bool Bool Bool stmt_kind_stands arm_stands branch_stands stmt_layer_stands

abbrev stands_of : RawLayer → Bool
stands_of layer = stmt_kind_stands
    (map-RawStmtKind RawStmtKind RawArm RawBranch RawStmt Bool Bool Bool Bool
    (fold-RawStmtKind Bool Bool Bool Bool stmt_kind_stands arm_stands branch_stands stmt_layer_stands) arm_filled branch_filled stmt_stands layer)

stands_at : (place : Place) (layer : RawLayer) → stmt_stands (stmt place layer) ≡ stands_of layer
stands_at place layer = rw (fold-roll-RawStmt, fold-roll-RawStmtKind) refl

arm_stands_at : (test : RawExpr) (body : List RawStmt) → arm_filled (roll-RawArm (record { test = test; body = body }))
    ≡ (expr_named test && all_of (map stmt_stands body))
arm_stands_at test body = rw fold-roll-RawArm refl

branch_stands_at : (weak : Bool) (body : List RawStmt) →
    branch_filled (roll-RawBranch (record { weak = weak; body = body })) ≡ all_of (map stmt_stands body)
branch_stands_at weak body = rw fold-roll-RawBranch refl

-- a `var` without a value has a type
declared_so : (scopes : Scopes) (name : Name) (ty : Option RawType) (value : Option RawExpr) → (is_some ty || is_some value) ≡ true →
    declared_by (named_var scopes name ty role.Variable) (option_map (named_expr scopes) value) ≡ true
declared_so scopes name ty (Some e) stands = refl
declared_so scopes name (Some ty) None stands = refl
declared_so scopes name None None stands = stands

inhabited : {X A : Type 0} (test : A → Bool) (stands : X → Bool) (piece : X → Piece A) (xs : List X) (scopes : Scopes) →
    is_filled (map stands xs) ≡ true →
    is_inhabited (map test (made_of_all (map piece xs) scopes)) ≡ true
inhabited test stands piece [] scopes has = has
inhabited test stands piece (x ∷ xs) scopes has = refl

-- calls in the value of a constant name functions
pub value_is : (units : List UnitDef) (scopes : Scopes) (constant : RawConstant) → Told (kinds_of units) scopes →
    Fits scopes (optional type_marks constant.ty ++ expr_marks constant.value) →
    calls_functions units (named_expr scopes constant.value) ≡ true
value_is units scopes constant told fits =
    expr_is units scopes scopes.counts told constant.value (fits_behind scopes (optional type_marks constant.ty) (expr_marks constant.value)
    (still_optional type_marks constant.ty still_type) fits)

module _ (units : List UnitDef) (all_vars : List NamedVar) (all_constants : List NamedConstant) where
  abbrev kinds : List UnitKind
  kinds = kinds_of units

  -- a test holds of what is made of a part
  abbrev pub Good : {A : Type 0} → (A → Bool) → Piece A → Type 0
  Good test piece =
      (scopes : Scopes) → Told (kinds_of units) scopes → Fits scopes piece.marks → Within all_vars scopes.counts.variables (piece.vars scopes) →
      Within all_constants scopes.counts.constants (piece.constants scopes) →
      Suits units (test (piece.made scopes)) scopes (after scopes piece.marks) (piece.vars scopes) (piece.constants scopes)

  abbrev stmt_test : NamedStmt → Bool
  stmt_test = stmt_named all_constants all_vars units

  abbrev arm_test : NamedArm → Bool
  arm_test = named_arm all_constants all_vars units

  abbrev branch_test : NamedBranch → Bool
  branch_test = named_branch all_constants all_vars units

  abbrev StmtGood : RawStmt → Type 0
  StmtGood s = stmt_stands s ≡ true → Good stmt_test (stmt_piece s)

  abbrev ArmGood : RawArm → Type 0
  ArmGood arm = arm_filled arm ≡ true → Good arm_test (piece_of_arm arm)

  abbrev BranchGood : RawBranch → Type 0
  BranchGood branch = branch_filled branch ≡ true → Good branch_test (piece_of_branch branch)

  -- one part and then another
  good_then : {A B : Type 0} (first : Piece A) (second : Piece B) (one : A → Bool) (other : B → Bool) (scopes : Scopes) →
      Good one first → Good other second →
      Told kinds scopes → Fits scopes (first.marks ++ second.marks) →
      Within all_vars scopes.counts.variables (first.vars scopes ++ second.vars (after scopes first.marks)) →
      Within all_constants scopes.counts.constants (first.constants scopes ++ second.constants (after scopes first.marks)) →
      Suits units (one (first.made scopes) && other (second.made (after scopes first.marks))) scopes (after scopes (first.marks ++ second.marks))
      (first.vars scopes ++ second.vars (after scopes first.marks)) (first.constants scopes ++ second.constants (after scopes first.marks))
  good_then first second one other scopes is_one is_other told fits vars constants =
      let middle = after scopes first.marks in
      let there = is_one scopes told (fits_first scopes first.marks second.marks fits)
      (within_first all_vars scopes.counts.variables (first.vars scopes) (second.vars middle) vars)
      (within_first all_constants scopes.counts.constants (first.constants scopes) (second.constants middle) constants) in
      let behind = is_other middle there.told (fits_second scopes first.marks second.marks fits)
      (subst (λ at. Within all_vars at (second.vars middle)) (sym there.more_vars)
      (within_second all_vars scopes.counts.variables (first.vars scopes) (second.vars middle) vars))
      (subst (λ at. Within all_constants at (second.constants middle)) (sym there.more_constants)
      (within_second all_constants scopes.counts.constants (first.constants scopes) (second.constants middle) constants)) in
      subst (λ new. Suits units (one (first.made scopes) && other (second.made middle)) scopes new (first.vars scopes ++ second.vars middle)
      (first.constants scopes ++ second.constants middle))
      (sym (after-append scopes first.marks second.marks))
      (suits_then units (one (first.made scopes)) (other (second.made middle)) scopes middle (after middle second.marks) (first.vars scopes)
      (second.vars middle) (first.constants scopes) (second.constants middle) there behind)

  good_all : {X A : Type 0} (piece : X → Piece A) (test : A → Bool) (stands : X → Bool) (xs : List X) →
      All (λ x. stands x ≡ true → Good test (piece x)) xs →
      all_of (map stands xs) ≡ true →
      Good (λ made. all_of (map test made)) (all (map piece xs))
  good_all piece test stands [] each hold scopes told fits vars constants = suits_none units scopes told
  good_all piece test stands (x ∷ xs) each hold scopes told fits vars constants =
      good_then (piece x) (all (map piece xs)) test (λ made. all_of (map test made)) scopes
      (All-head (λ x. stands x ≡ true → Good test (piece x)) x xs each (and_first (stands x) (all_of (map stands xs)) hold))
      (good_all piece test stands xs (All-tail (λ x. stands x ≡ true → Good test (piece x)) x xs each)
      (and_second (stands x) (all_of (map stands xs)) hold))
      told fits vars constants

  -- in a scope of its own
  good_own : {A : Type 0} (piece : Piece A) (test : A → Bool) → Good test piece → Good test (own_scope piece)
  good_own piece test good scopes told fits vars constants =
      suits_closed units (test (piece.made (opened scopes))) scopes piece.marks (piece.vars (opened scopes)) (piece.constants (opened scopes)) told
      (good (opened scopes) (told_opened units scopes told) (fits_first (opened scopes) piece.marks (closes ∷ []) fits.1) vars constants)

  abbrev body_of : List RawStmt → Piece (List NamedStmt)
  body_of body = all (map stmt_piece body)

  abbrev body_test : List NamedStmt → Bool
  body_test body = all_of (map stmt_test body)

  good_body : (body : List RawStmt) → All StmtGood body → all_of (map stmt_stands body) ≡ true → Good body_test (body_of body)
  good_body body each hold = good_all stmt_piece stmt_test stmt_stands body each hold

  -- a body behind a condition
  good_tested : (e : RawExpr) (body : List RawStmt) → All StmtGood body → all_of (map stmt_stands body) ≡ true → (scopes : Scopes) →
      Told kinds scopes →
      Fits scopes (expr_marks e ++ in_scope (body_of body).marks) →
      Within all_vars scopes.counts.variables ((body_of body).vars (opened (after scopes (expr_marks e)))) →
      Within all_constants scopes.counts.constants ((body_of body).constants (opened (after scopes (expr_marks e)))) →
      Suits units (calls_functions units (named_expr scopes e) && body_test ((body_of body).made (opened (after scopes (expr_marks e))))) scopes
      (after scopes (expr_marks e ++ in_scope (body_of body).marks))
      ((body_of body).vars (opened (after scopes (expr_marks e)))) ((body_of body).constants (opened (after scopes (expr_marks e))))
  good_tested e body each hold scopes told fits vars constants =
      good_then (plain (expr_marks e) (λ scopes. named_expr scopes e)) (own_scope (body_of body)) (calls_functions units) body_test scopes
      (λ scopes told fits vars constants. suits_still units (calls_functions units (named_expr scopes e)) scopes (expr_marks e) (still_expr e) told
      (expr_is units scopes scopes.counts told e fits))
      (good_own (body_of body) body_test (good_body body each hold)) told fits vars constants

  -- a body before a condition, which sees what is around it
  good_until : (body : List RawStmt) (e : RawExpr) → All StmtGood body → all_of (map stmt_stands body) ≡ true → (scopes : Scopes) →
      Told kinds scopes →
      Fits scopes (in_scope (body_of body).marks ++ expr_marks e) →
      Within all_vars scopes.counts.variables ((body_of body).vars (opened scopes)) →
      Within all_constants scopes.counts.constants ((body_of body).constants (opened scopes)) →
      Suits units (body_test ((body_of body).made (opened scopes)) && calls_functions units (named_expr scopes e)) scopes
      (after scopes (in_scope (body_of body).marks ++ expr_marks e))
      ((body_of body).vars (opened scopes)) ((body_of body).constants (opened scopes))
  good_until body e each hold scopes told fits vars constants =
      let marks = (body_of body).marks in
      let made = body_test ((body_of body).made (opened scopes)) in
      let inside = good_body body each hold (opened scopes) (told_opened units scopes told)
      (fits_first (opened scopes) marks (closes ∷ []) (fits_first scopes (in_scope marks) (expr_marks e) fits).1) vars constants in
      let closed = scope_is units scopes marks inside.outer in
      let calls = expr_is units scopes (after (opened scopes) marks).counts told e
      (subst (λ s. Fits s (expr_marks e)) closed (fits_second scopes (in_scope marks) (expr_marks e) fits)) in
      subst (λ new. Suits units (made && calls_functions units (named_expr scopes e)) scopes new ((body_of body).vars (opened scopes))
      ((body_of body).constants (opened scopes)))
      (sym (after-append scopes (in_scope marks) (expr_marks e) ∙ still_expr e (after scopes (in_scope marks))))
      (suits_so units made (made && calls_functions units (named_expr scopes e)) scopes (after scopes (in_scope marks)) ((body_of body).vars (opened scopes))
      ((body_of body).constants (opened scopes))
      (λ is. and_from made (calls_functions units (named_expr scopes e)) is calls)
      (suits_closed units made scopes marks ((body_of body).vars (opened scopes)) ((body_of body).constants (opened scopes)) told inside))

  -- ---- each kind

  abbrev kind_test : NamedStmtKind → Bool
  kind_test = fold-NamedStmtKind Bool Bool Bool Bool (kind_named all_constants all_vars units) (arm_named units) branch_named stmt_layer_named

  abbrev layer_test : Layer → Bool
  layer_test layer = kind_named all_constants all_vars units (map-NamedStmtKind NamedStmtKind NamedArm NamedBranch NamedStmt Bool Bool Bool Bool kind_test
      arm_test branch_test stmt_test layer)

  test_at : (place : Place) (kind : NamedStmtKind) (layer : Layer) → out-NamedStmtKind kind ≡ layer →
      stmt_test (roll-NamedStmt (record { place = place; what = kind })) ≡ layer_test layer
  test_at place kind layer is =
      rw fold-roll-NamedStmt (fold_out-NamedStmtKind Bool Bool Bool Bool (kind_named all_constants all_vars units) (arm_named units) branch_named
      stmt_layer_named kind ∙ ap layer_test is)

  -- a statement whose kind becomes this
  stmt_good : (place : Place) (layer : RawLayer) (made : Scopes → Layer) →
      ((scopes : Scopes) → out-NamedStmtKind ((kind_piece (parts layer)).made scopes) ≡ made scopes) →
      (stands_of layer ≡ true → (scopes : Scopes) → Told kinds scopes → Fits scopes (kind_piece (parts layer)).marks →
      Within all_vars scopes.counts.variables ((kind_piece (parts layer)).vars scopes) →
      Within all_constants scopes.counts.constants ((kind_piece (parts layer)).constants scopes) →
      Suits units (layer_test (made scopes)) scopes (after scopes (kind_piece (parts layer)).marks) ((kind_piece (parts layer)).vars scopes)
      ((kind_piece (parts layer)).constants scopes)) →
      StmtGood (stmt place layer)
  stmt_good place layer made is gives stands =
      subst (Good stmt_test) (sym (stmt_is place layer))
      (λ scopes told fits vars constants.
      subst (λ test. Suits units test scopes (after scopes (kind_piece (parts layer)).marks) ((kind_piece (parts layer)).vars scopes)
      ((kind_piece (parts layer)).constants scopes))
      (sym (test_at place ((kind_piece (parts layer)).made scopes) (made scopes) (is scopes)))
      (gives (sym (stands_at place layer) ∙ stands) scopes told fits vars constants))

  declared : (scopes : Scopes) (name : Name) (ty : Option RawType) (role : Role) (value : Option RawExpr) →
      declared_by (named_var scopes name ty role) (option_map (named_expr scopes) value) ≡ true → Told kinds scopes →
      Fits scopes ((optional type_marks ty ++ optional expr_marks value) ++ (declares name kind.Variable ∷ [])) →
      Within all_vars scopes.counts.variables (named_var scopes name ty role ∷ []) →
      Suits units (layer_test (NamedStmtKind-F.Declare scopes.counts.variables (option_map (named_expr scopes) value))) scopes
      (after scopes ((optional type_marks ty ++ optional expr_marks value) ++ (declares name kind.Variable ∷ []))) (named_var scopes name ty role ∷ []) []
  declared scopes name ty role value by told fits vars =
      let marks = optional type_marks ty ++ optional expr_marks value in
      let k = scopes.counts.variables in
      let made = option_map (named_expr scopes) value in
      subst (λ new. Suits units (layer_test (NamedStmtKind-F.Declare k made)) scopes new (named_var scopes name ty role ∷ []) [])
      (enter-behind scopes marks name kind.Variable (still_value ty value))
      (suits_variable units (layer_test (NamedStmtKind-F.Declare k made)) scopes name (named_var scopes name ty role) told
      (and_from (holds_of (λ (var : NamedVar). declared_by var made) (slice_get all_vars k)) (holds_if (calls_functions units) made)
      (ap (holds_of (λ (var : NamedVar). declared_by var made)) (within_one all_vars k (named_var scopes name ty role) [] vars) ∙ by)
      (optional_is units scopes scopes.counts told value
      (fits_behind scopes (optional type_marks ty) (optional expr_marks value) (still_optional type_marks ty still_type)
      (fits_first scopes marks (declares name kind.Variable ∷ []) fits)))))

  constant_good : (scopes : Scopes) (constant : RawConstant) → Told kinds scopes → Fits scopes (constant_piece constant).marks →
      Within all_constants scopes.counts.constants (named_constant scopes constant ∷ []) →
      Suits units (layer_test (NamedStmtKind-F.Const scopes.counts.constants)) scopes (after scopes (constant_piece constant).marks) []
      (named_constant scopes constant ∷ [])
  constant_good scopes constant told fits constants =
      let marks = optional type_marks constant.ty ++ expr_marks constant.value in
      let k = scopes.counts.constants in
      subst (λ new. Suits units (layer_test (NamedStmtKind-F.Const k)) scopes new [] (named_constant scopes constant ∷ []))
      (enter-behind scopes marks constant.name kind.Constant (still_value constant.ty (Some constant.value)))
      (suits_so units (calls_functions units (named_expr scopes constant.value)) (layer_test (NamedStmtKind-F.Const k)) scopes
      (enter scopes (declares constant.name kind.Constant)) [] (named_constant scopes constant ∷ [])
      (λ is. ap (holds_of (λ (constant : NamedConstant). calls_functions units constant.value))
      (within_one all_constants k (named_constant scopes constant) [] constants) ∙ is)
      (suits_constant units scopes constant.name (named_constant scopes constant) told
      (value_is units scopes constant told (fits_first scopes marks (declares constant.name kind.Constant ∷ []) fits))))

  target_still : (target : Option RawPath) → Still (optional path_marks target)
  target_still target = still_optional path_marks target (λ path. still_use path.root wanted.Variable)

  if_good : (arms : List RawArm) (other : List RawStmt) → All ArmGood arms → All StmtGood other → stands_of (RawStmtKind-F.If arms other) ≡ true →
      (scopes : Scopes) → Told kinds scopes → Fits scopes ((all (map piece_of_arm arms)).marks ++ in_scope (body_of other).marks) →
      Within all_vars scopes.counts.variables ((all (map piece_of_arm arms)).vars scopes
      ++ (body_of other).vars (opened (after scopes (all (map piece_of_arm arms)).marks))) →
      Within all_constants scopes.counts.constants ((all (map piece_of_arm arms)).constants scopes
      ++ (body_of other).constants (opened (after scopes (all (map piece_of_arm arms)).marks))) →
      Suits units (layer_test (NamedStmtKind-F.If ((all (map piece_of_arm arms)).made scopes)
      ((body_of other).made (opened (after scopes (all (map piece_of_arm arms)).marks))))) scopes
      (after scopes ((all (map piece_of_arm arms)).marks ++ in_scope (body_of other).marks))
      ((all (map piece_of_arm arms)).vars scopes ++ (body_of other).vars (opened (after scopes (all (map piece_of_arm arms)).marks)))
      ((all (map piece_of_arm arms)).constants scopes ++ (body_of other).constants (opened (after scopes (all (map piece_of_arm arms)).marks)))
  if_good arms other in_arms in_other stands scopes told fits vars constants =
      let first = all (map piece_of_arm arms) in
      let new = after scopes first.marks in
      let tests = map arm_filled arms in
      let others = all_of (map stmt_stands other) in
      let hold = and_second (is_filled tests) (all_of tests && others) stands in
      let made = all_of (map arm_test (first.made scopes)) && body_test ((body_of other).made (opened new)) in
      suits_so units made (is_inhabited (map arm_test (first.made scopes)) && made) scopes (after scopes (first.marks ++ in_scope (body_of other).marks))
      (first.vars scopes ++ (body_of other).vars (opened new)) (first.constants scopes ++ (body_of other).constants (opened new))
      (λ is. and_from (is_inhabited (map arm_test (first.made scopes))) made
      (inhabited arm_test arm_filled piece_of_arm arms scopes (and_first (is_filled tests) (all_of tests && others) stands)) is)
      (good_then first (own_scope (body_of other)) (λ made. all_of (map arm_test made)) body_test scopes
      (good_all piece_of_arm arm_test arm_filled arms in_arms (and_first (all_of tests) others hold))
      (good_own (body_of other) body_test (good_body other in_other (and_second (all_of tests) others hold))) told fits vars constants)

  cobegin_good : (branches : List RawBranch) → All BranchGood branches → stands_of (RawStmtKind-F.Cobegin branches) ≡ true →
      (scopes : Scopes) → Told kinds scopes → Fits scopes (all (map piece_of_branch branches)).marks →
      Within all_vars scopes.counts.variables ((all (map piece_of_branch branches)).vars scopes) →
      Within all_constants scopes.counts.constants ((all (map piece_of_branch branches)).constants scopes) →
      Suits units (layer_test (NamedStmtKind-F.Cobegin ((all (map piece_of_branch branches)).made scopes))) scopes
      (after scopes (all (map piece_of_branch branches)).marks)
      ((all (map piece_of_branch branches)).vars scopes) ((all (map piece_of_branch branches)).constants scopes)
  cobegin_good branches in_branches stands scopes told fits vars constants =
      let whole = all (map piece_of_branch branches) in
      let tests = map branch_filled branches in
      let made = all_of (map branch_test (whole.made scopes)) in
      suits_so units made (is_inhabited (map branch_test (whole.made scopes)) && made) scopes (after scopes whole.marks) (whole.vars scopes)
      (whole.constants scopes)
      (λ is. and_from (is_inhabited (map branch_test (whole.made scopes))) made
      (inhabited branch_test branch_filled piece_of_branch branches scopes (and_first (is_filled tests) (all_of tests) stands)) is)
      (good_all piece_of_branch branch_test branch_filled branches in_branches (and_second (is_filled tests) (all_of tests) stands) scopes told fits vars
      constants)

  arm_good : (test : RawExpr) (body : List RawStmt) → All StmtGood body → ArmGood (roll-RawArm (record { test = test; body = body }))
  arm_good test body each stands =
      subst (Good arm_test) (sym (arm_is test body))
      (λ scopes told fits vars constants.
      let inner = opened (after scopes (expr_marks test)) in
      let at : arm_test (roll-NamedArm (record { test = named_expr scopes test; body = (body_of body).made inner }))
      ≡ (calls_functions units (named_expr scopes test) && body_test ((body_of body).made inner)) = rw fold-roll-NamedArm refl in
      subst (λ holds. Suits units holds scopes (after scopes (expr_marks test ++ in_scope (body_of body).marks)) ((body_of body).vars inner)
      ((body_of body).constants inner)) (sym at)
      (good_tested test body each (and_second (expr_named test) (all_of (map stmt_stands body)) (sym (arm_stands_at test body) ∙ stands)) scopes told fits vars
      constants))

  branch_good : (weak : Bool) (body : List RawStmt) → All StmtGood body → BranchGood (roll-RawBranch (record { weak = weak; body = body }))
  branch_good weak body each stands =
      subst (Good branch_test) (sym (branch_is weak body))
      (λ scopes told fits vars constants.
      let at : branch_test (roll-NamedBranch (record { weak = weak; body = (body_of body).made (opened scopes) }))
      ≡ body_test ((body_of body).made (opened scopes)) = rw fold-roll-NamedBranch refl in
      subst (λ holds. Suits units holds scopes (after scopes (in_scope (body_of body).marks)) ((body_of body).vars (opened scopes))
      ((body_of body).constants (opened scopes))) (sym at)
      (good_own (body_of body) body_test (good_body body each (sym (branch_stands_at weak body) ∙ stands)) scopes told fits vars constants))

  cases : Cases StmtGood ArmGood BranchGood
  cases = record {
    var = λ place name ty value. stmt_good place (RawStmtKind-F.Var name ty value)
        (λ scopes. NamedStmtKind-F.Declare scopes.counts.variables (option_map (named_expr scopes) value))
        (λ scopes. what.outs-Declare scopes.counts.variables (option_map (named_expr scopes) value))
        (λ stands scopes told fits vars constants. declared scopes name ty role.Variable value
        (declared_so scopes name ty value (and_second (if_there expr_named value) (is_some ty || is_some value)
        (and_second (if_there type_named ty) (if_there expr_named value && (is_some ty || is_some value))
        (and_second (named name) (if_there type_named ty && (if_there expr_named value && (is_some ty || is_some value))) stands)))) told fits vars);
    fixed = λ place name ty value. stmt_good place (RawStmtKind-F.Let name ty value)
        (λ scopes. NamedStmtKind-F.Declare scopes.counts.variables (Some (named_expr scopes value)))
        (λ scopes. what.outs-Declare scopes.counts.variables (Some (named_expr scopes value)))
        (λ stands scopes told fits vars constants. declared scopes name ty role.Fixed (Some value) refl told fits vars);
    constant = λ place constant. stmt_good place (RawStmtKind-F.Const constant) (λ scopes. NamedStmtKind-F.Const scopes.counts.constants)
        (λ scopes. what.outs-Const scopes.counts.constants)
        (λ stands scopes told fits vars constants. constant_good scopes constant told fits constants);
    assign = λ place target e. stmt_good place (RawStmtKind-F.Assign target e)
        (λ scopes. NamedStmtKind-F.Assign (named_target scopes target) (named_expr scopes e))
        (λ scopes. what.outs-Assign (named_target scopes target) (named_expr scopes e))
        (λ stands scopes told fits vars constants. suits_still units _ scopes (target_marks target wanted.Variable ++ expr_marks e)
        (still_append (target_marks target wanted.Variable) (expr_marks e) (still_target target wanted.Variable) (still_expr e)) told
        (and_from _ _ (target_is units scopes scopes.counts told target wanted.Variable
        (fits_first scopes (target_marks target wanted.Variable) (expr_marks e) fits))
        (expr_is units scopes scopes.counts told e (fits_behind scopes (target_marks target wanted.Variable) (expr_marks e)
        (still_target target wanted.Variable) fits))));
    call = λ place f inputs outputs. stmt_good place (RawStmtKind-F.Call f inputs outputs)
        (λ scopes. NamedStmtKind-F.Call f.place (position scopes f) (map (named_expr scopes) inputs) (map (named_path scopes) outputs))
        (λ scopes. what.outs-Call f.place (position scopes f) (map (named_expr scopes) inputs) (map (named_path scopes) outputs))
        (λ stands scopes told fits vars constants. suits_still units _ scopes (uses f wanted.Function ∷ argument_marks inputs outputs)
        (still_append (uses f wanted.Function ∷ []) (argument_marks inputs outputs) (still_use f wanted.Function) (still_arguments inputs outputs)) told
        (and_from _ _ (function_is units scopes scopes.counts told f fits.0)
        (exprs_are units scopes scopes.counts told inputs (fits_first scopes (joined (map expr_marks inputs)) (joined (map path_marks outputs)) fits.1))));
    await = λ place e. stmt_good place (RawStmtKind-F.Await e) (λ scopes. NamedStmtKind-F.Await (named_expr scopes e))
        (λ scopes. what.outs-Await (named_expr scopes e))
        (λ stands scopes told fits vars constants. suits_still units _ scopes (expr_marks e) (still_expr e) told
        (expr_is units scopes scopes.counts told e fits));
    run = λ place target a inputs outputs. stmt_good place (RawStmtKind-F.Run target a inputs outputs)
        (λ scopes. NamedStmtKind-F.Run (option_map (named_path scopes) target) a.place (position scopes a) (map (named_expr scopes) inputs)
        (map (named_path scopes) outputs)) (λ scopes. what.outs-Run (option_map (named_path scopes) target) a.place (position scopes a)
        (map (named_expr scopes) inputs) (map (named_path scopes) outputs))
        (λ stands scopes told fits vars constants.
        let behind = fits_behind scopes (optional path_marks target) (uses a wanted.Activity ∷ argument_marks inputs outputs) (target_still target) fits in
        suits_still units _ scopes (optional path_marks target ++ (uses a wanted.Activity ∷ argument_marks inputs outputs))
        (still_append (optional path_marks target) (uses a wanted.Activity ∷ argument_marks inputs outputs) (target_still target)
        (still_append (uses a wanted.Activity ∷ []) (argument_marks inputs outputs) (still_use a wanted.Activity) (still_arguments inputs outputs))) told
        (and_from _ _ (activity_is units scopes scopes.counts told a behind.0)
        (exprs_are units scopes scopes.counts told inputs (fits_first scopes (joined (map expr_marks inputs)) (joined (map path_marks outputs)) behind.1))));
    branching = λ place arms other in_arms in_other. stmt_good place (RawStmtKind-F.If arms other)
        (λ scopes. NamedStmtKind-F.If (made_of_all (map piece_of_arm arms) scopes)
        (made_of_all (map stmt_piece other) (opened (after scopes (marks_of_all (map piece_of_arm arms))))))
        (λ scopes. what.outs-If (made_of_all (map piece_of_arm arms) scopes)
        (made_of_all (map stmt_piece other) (opened (after scopes (marks_of_all (map piece_of_arm arms))))))
        (if_good arms other in_arms in_other);
    cobegin = λ place branches in_branches. stmt_good place (RawStmtKind-F.Cobegin branches)
        (λ scopes. NamedStmtKind-F.Cobegin (made_of_all (map piece_of_branch branches) scopes))
        (λ scopes. what.outs-Cobegin (made_of_all (map piece_of_branch branches) scopes))
        (cobegin_good branches in_branches);
    guarded = λ place guard e body each. stmt_good place (RawStmtKind-F.When guard e body)
        (λ scopes. NamedStmtKind-F.When guard (named_expr scopes e) (made_of_all (map stmt_piece body) (opened (after scopes (expr_marks e)))))
        (λ scopes. what.outs-When guard (named_expr scopes e) (made_of_all (map stmt_piece body) (opened (after scopes (expr_marks e)))))
        (λ stands. good_tested e body each (and_second (expr_named e) (all_of (map stmt_stands body)) stands));
    repeat = λ place body each. stmt_good place (RawStmtKind-F.Repeat body)
        (λ scopes. NamedStmtKind-F.Repeat (made_of_all (map stmt_piece body) (opened scopes)))
        (λ scopes. what.outs-Repeat (made_of_all (map stmt_piece body) (opened scopes)))
        (λ stands. good_own (body_of body) body_test (good_body body each stands));
    until = λ place body e each. stmt_good place (RawStmtKind-F.Until body e)
        (λ scopes. NamedStmtKind-F.Until (made_of_all (map stmt_piece body) (opened scopes)) (named_expr scopes e))
        (λ scopes. what.outs-Until (made_of_all (map stmt_piece body) (opened scopes)) (named_expr scopes e))
        (λ stands. good_until body e each (and_first (all_of (map stmt_stands body)) (expr_named e) stands));
    while = λ place e body each. stmt_good place (RawStmtKind-F.While e body)
        (λ scopes. NamedStmtKind-F.While (named_expr scopes e) (made_of_all (map stmt_piece body) (opened (after scopes (expr_marks e)))))
        (λ scopes. what.outs-While (named_expr scopes e) (made_of_all (map stmt_piece body) (opened (after scopes (expr_marks e)))))
        (λ stands. good_tested e body each (and_second (expr_named e) (all_of (map stmt_stands body)) stands));
    returns = λ place e. stmt_good place (RawStmtKind-F.Return e) (λ scopes. NamedStmtKind-F.Return (option_map (named_expr scopes) e))
        (λ scopes. what.outs-Return (option_map (named_expr scopes) e))
        (λ stands scopes told fits vars constants. suits_still units _ scopes (optional expr_marks e) (still_optional expr_marks e still_expr) told
        (optional_is units scopes scopes.counts told e fits));
    arm = arm_good;
    branch = branch_good;
  }

  every_of : (body : List RawStmt) → All StmtGood body
  every_of body = λ k d within. induct StmtGood ArmGood BranchGood cases _

  pub every_body : (body : List RawStmt) → all_of (map stmt_stands body) ≡ true →
      Good (λ made. all_of (map (stmt_named all_constants all_vars units) made)) (all (map stmt_piece body))
  every_body body hold = good_body body (every_of body) hold
