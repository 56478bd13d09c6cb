-- The names of variables are names, where those of the raw tree are.
use Rattle.std.proofs.Common.{◌≡◌, ℕ, Bool, true, ◌&&◌, List, [], ◌∷◌, ◌++◌, map, refl, sym, ap, ◌∙◌}
use Rattle.std.specs.Prelude.{All}
use Rattle.std.specs.List.{list_all}
use Rattle.std.proofs.lemmas.List.Elements.{All-head, All-tail}
use Rattle.std.proofs.lemmas.Bool.{and_from}
use Rattle.bl_tree.proofs.Basics.{all_append, and_first, and_second}
use Rattle.bl_tree.specs.declared.place.Place.{Place}
use Rattle.bl_tree.specs.declared.tree.Role.{Role}
use Rattle.bl_tree.specs.declared.tree.Role.TheVariants as role
use Rattle.bl_tree.specs.Reduce.{all_of}
use Rattle.bl_tree.specs.Words.{is_name}
use Rattle.bl_names_tree.specs.declared.item.NamedStruct.{NamedStruct}
use Rattle.bl_names_tree.specs.declared.item.NamedUnit.{NamedUnit}
use Rattle.bl_parse_tree.specs.declared.item.RawField.{RawField}
use Rattle.bl_parse_tree.specs.declared.item.RawItem.{RawItem}
use Rattle.bl_parse_tree.specs.declared.item.RawItem.TheVariants as item
use Rattle.bl_parse_tree.specs.declared.item.RawParam.{RawParam}
use Rattle.bl_parse_tree.specs.declared.item.RawUnit.{RawUnit}
use Rattle.bl_parse_tree.specs.declared.name.Name.{Name}
use Rattle.bl_parse_tree.specs.declared.stmt.RawArm.{RawArm, fold-RawArm}
use Rattle.bl_parse_tree.specs.declared.stmt.RawBranch.{RawBranch, fold-RawBranch}
use Rattle.bl_parse_tree.specs.declared.stmt.RawStmt.{RawStmt}
use Rattle.bl_parse_tree.specs.declared.stmt.RawStmtKind.TheOpen.{RawStmtKind-F}
use Rattle.bl_parse_tree.specs.Names.{arm_stands, branch_stands, expr_named, field_named, is_filled, item_stands, named, optional, param_named}
use Rattle.bl_parse_tree.specs.Names.{stmt_kind_stands, stmt_layer_stands, stmt_stands, type_named, unit_stands}
use Rattle.bl_names_scopes.specs.Marks.{expr_marks, param_marks}
use Rattle.bl_names_scopes.specs.Scopes.{Scopes, after, file_scope}
use Rattle.bl_names.specs.Named.{Piece, block_piece, kind_piece, marks_of_all, named_field, named_program, named_struct, named_unit, opened, params_piece}
use Rattle.bl_names.specs.Named.{piece_of_arm, piece_of_branch, role_piece, stmt_piece, structs_of, units_of, vars_of_all}
use Rattle.bl_names.proofs.PieceLemmas.{arm_is, branch_is, parts, stmt_is}
use Rattle.bl_names.proofs.RawStmtInduction.{Cases, induct, stmt}
use Rattle.bl_names_laws.specs.WellFormed.{all_names, fields_named, has_name, variables_named}
use Rattle.bl_names_laws.proofs.Along.{along_holds}
use Rattle.bl_names_laws.proofs.Made.{RawLayer, raw_arm_at, raw_at, raw_branch_at, raw_parts}
use Rattle.bl_names_laws.proofs.Tests.{mapped}

-- whether what stands in an arm or a branch does
abbrev pub arm_of_names : RawArm → Bool
arm_of_names = fold-RawArm Bool Bool Bool Bool stmt_kind_stands arm_stands branch_stands stmt_layer_stands

abbrev pub branch_of_names : RawBranch → Bool
branch_of_names = fold-RawBranch Bool Bool Bool Bool stmt_kind_stands arm_stands branch_stands stmt_layer_stands

-- the variables of a part have names, where this is true
abbrev Good : {A : Type 0} → Bool → Piece A → Type 0
Good stands piece = stands ≡ true → (scopes : Scopes) → list_all has_name (piece.vars scopes) ≡ true

abbrev StmtGood : RawStmt → Type 0
StmtGood s = Good (stmt_stands s) (stmt_piece s)

abbrev ArmGood : RawArm → Type 0
ArmGood arm = Good (arm_of_names arm) (piece_of_arm arm)

abbrev BranchGood : RawBranch → Type 0
BranchGood branch = Good (branch_of_names branch) (piece_of_branch branch)

good_all : {X A : Type 0} (stands : X → Bool) (piece : X → Piece A) (xs : List X) → All (λ x. Good (stands x) (piece x)) xs →
    all_of (map stands xs) ≡ true → (scopes : Scopes) → list_all has_name (vars_of_all (map piece xs) scopes) ≡ true
good_all stands piece [] each hold scopes = refl
good_all stands piece (x ∷ xs) each hold scopes =
    all_append has_name ((piece x).vars scopes) (vars_of_all (map piece xs) (after scopes (piece x).marks))
    (All-head (λ x. Good (stands x) (piece x)) x xs each (and_first (stands x) (all_of (map stands xs)) hold) scopes)
    (good_all stands piece xs (All-tail (λ x. Good (stands x) (piece x)) x xs each) (and_second (stands x) (all_of (map stands xs)) hold)
    (after scopes (piece x).marks))

abbrev stands_of : RawLayer → Bool
stands_of layer = stmt_kind_stands (raw_parts Bool stmt_kind_stands arm_stands branch_stands stmt_layer_stands layer)

-- a statement whose kind has these variables
stmt_good : (place : Place) (layer : RawLayer) → Good (stands_of layer) (kind_piece (parts layer)) → StmtGood (stmt place layer)
stmt_good place layer good stands scopes =
    ap (λ piece. list_all has_name (piece.vars scopes)) (stmt_is place layer)
    ∙ good (sym (raw_at Bool stmt_kind_stands arm_stands branch_stands stmt_layer_stands place layer) ∙ stands) scopes

one_named : (name : Name) (rest : Bool) → (named name && rest) ≡ true → (named name && true) ≡ true
one_named name rest hold = and_from (named name) true (and_first (named name) rest hold) refl

cases : Cases StmtGood ArmGood BranchGood
cases = record {
  var = λ place name ty value. stmt_good place (RawStmtKind-F.Var name ty value) (λ stands scopes. one_named name _ stands);
  fixed = λ place name ty value. stmt_good place (RawStmtKind-F.Let name ty value) (λ stands scopes. one_named name _ stands);
  constant = λ place constant. stmt_good place (RawStmtKind-F.Const constant) (λ stands scopes. refl);
  assign = λ place target e. stmt_good place (RawStmtKind-F.Assign target e) (λ stands scopes. refl);
  call = λ place f inputs outputs. stmt_good place (RawStmtKind-F.Call f inputs outputs) (λ stands scopes. refl);
  await = λ place e. stmt_good place (RawStmtKind-F.Await e) (λ stands scopes. refl);
  run = λ place target a inputs outputs. stmt_good place (RawStmtKind-F.Run target a inputs outputs) (λ stands scopes. refl);
  branching = λ place arms other in_arms in_other. stmt_good place (RawStmtKind-F.If arms other) (λ stands scopes.
      let inside = and_second (is_filled (map arm_of_names arms)) (all_of (map arm_of_names arms) && all_of (map stmt_stands other)) stands in
      all_append has_name (vars_of_all (map piece_of_arm arms) scopes)
      (vars_of_all (map stmt_piece other) (opened (after scopes (marks_of_all (map piece_of_arm arms)))))
      (good_all arm_of_names piece_of_arm arms in_arms (and_first (all_of (map arm_of_names arms)) (all_of (map stmt_stands other)) inside) scopes)
      (good_all stmt_stands stmt_piece other in_other (and_second (all_of (map arm_of_names arms)) (all_of (map stmt_stands other)) inside)
      (opened (after scopes (marks_of_all (map piece_of_arm arms))))));
  cobegin = λ place branches in_branches. stmt_good place (RawStmtKind-F.Cobegin branches) (λ stands scopes.
      good_all branch_of_names piece_of_branch branches in_branches
      (and_second (is_filled (map branch_of_names branches)) (all_of (map branch_of_names branches)) stands) scopes);
  guarded = λ place guard e body each. stmt_good place (RawStmtKind-F.When guard e body) (λ stands scopes.
      good_all stmt_stands stmt_piece body each (and_second (expr_named e) (all_of (map stmt_stands body)) stands) (opened (after scopes (expr_marks e))));
  repeat = λ place body each. stmt_good place (RawStmtKind-F.Repeat body) (λ stands scopes. good_all stmt_stands stmt_piece body each stands (opened scopes));
  until = λ place body e each. stmt_good place (RawStmtKind-F.Until body e) (λ stands scopes.
      good_all stmt_stands stmt_piece body each (and_first (all_of (map stmt_stands body)) (expr_named e) stands) (opened scopes));
  while = λ place e body each. stmt_good place (RawStmtKind-F.While e body) (λ stands scopes.
      good_all stmt_stands stmt_piece body each (and_second (expr_named e) (all_of (map stmt_stands body)) stands) (opened (after scopes (expr_marks e))));
  returns = λ place e. stmt_good place (RawStmtKind-F.Return e) (λ stands scopes. refl);
  arm = λ test body each stands scopes.
      ap (λ piece. list_all has_name (piece.vars scopes)) (arm_is test body)
      ∙ good_all stmt_stands stmt_piece body each
      (and_second (expr_named test) (all_of (map stmt_stands body))
      (sym (raw_arm_at Bool stmt_kind_stands arm_stands branch_stands stmt_layer_stands test body) ∙ stands)) (opened (after scopes (expr_marks test)));
  branch = λ weak body each stands scopes.
      ap (λ piece. list_all has_name (piece.vars scopes)) (branch_is weak body)
      ∙ good_all stmt_stands stmt_piece body each (sym (raw_branch_at Bool stmt_kind_stands arm_stands branch_stands stmt_layer_stands weak body) ∙ stands)
      (opened scopes);
}

locals_named : (body : List RawStmt) → list_all stmt_stands body ≡ true → (scopes : Scopes) →
    list_all has_name ((block_piece body).vars scopes) ≡ true
locals_named [] hold scopes = refl
locals_named (s ∷ body) hold scopes =
    all_append has_name ((stmt_piece s).vars scopes) ((block_piece body).vars (after scopes (stmt_piece s).marks))
    (induct StmtGood ArmGood BranchGood cases s (and_first (stmt_stands s) (list_all stmt_stands body) hold) scopes)
    (locals_named body (and_second (stmt_stands s) (list_all stmt_stands body) hold) (after scopes (stmt_piece s).marks))

params_named : (role : Role) (params : List RawParam) → list_all param_named params ≡ true → (scopes : Scopes)
    → list_all has_name ((role_piece role params).vars scopes) ≡ true
params_named role [] hold scopes = refl
params_named role (param ∷ params) hold scopes =
    and_from (named param.name) (list_all has_name ((role_piece role params).vars (after scopes (param_marks param))))
    (and_first (named param.name) (type_named param.ty) (and_first (param_named param) (list_all param_named params) hold))
    (params_named role params (and_second (param_named param) (list_all param_named params) hold) (after scopes (param_marks param)))

unit_named : (scopes : Scopes) (def : RawUnit) → unit_stands def ≡ true → variables_named (named_unit scopes def) ≡ true
unit_named scopes def stands =
    let head = and_first (named def.name && (list_all param_named def.inputs && list_all param_named def.outputs))
    (optional type_named def.result && list_all stmt_stands def.body) stands in
    let params = and_second (named def.name) (list_all param_named def.inputs && list_all param_named def.outputs) head in
    let rest = and_second (named def.name && (list_all param_named def.inputs && list_all param_named def.outputs))
    (optional type_named def.result && list_all stmt_stands def.body) stands in
    let inputs = (role_piece role.Input def.inputs).vars (opened scopes) in
    let outputs = (role_piece role.Output def.outputs).vars (after (opened scopes) (role_piece role.Input def.inputs).marks) in
    all_append has_name (inputs ++ outputs) ((block_piece def.body).vars (after (opened scopes) (params_piece def).marks))
    (all_append has_name inputs outputs
    (params_named role.Input def.inputs (and_first (list_all param_named def.inputs) (list_all param_named def.outputs) params) (opened scopes))
    (params_named role.Output def.outputs (and_second (list_all param_named def.inputs) (list_all param_named def.outputs) params)
    (after (opened scopes) (role_piece role.Input def.inputs).marks)))
    (locals_named def.body (and_second (optional type_named def.result) (list_all stmt_stands def.body) rest)
    (after (opened scopes) (params_piece def).marks))

item_named : (scopes : Scopes) (one : RawItem) → item_stands one ≡ true → list_all variables_named (units_of scopes one) ≡ true
item_named scopes (item.Struct def) stands = refl
item_named scopes (item.Constant constant) stands = refl
item_named scopes (item.Unit def) stands = and_from (variables_named (named_unit scopes def)) true (unit_named scopes def stands) refl

pub variables_are_named : (items : List RawItem) (bytes : ℕ) → list_all item_stands items ≡ true →
    list_all variables_named (named_program items bytes).units
    ≡ true
variables_are_named items bytes = along_holds item_stands units_of variables_named item_named file_scope items

-- ---- structs and units

field_is : (scopes : Scopes) (field : RawField) → field_named field ≡ true → is_name (named_field scopes field).name.text ≡ true
field_is scopes field stands = and_first (named field.name) (type_named field.ty) stands

fields_filled : (scopes : Scopes) (name : Name) (fields : List RawField) → (is_filled fields && list_all field_named fields) ≡ true →
    fields_named (named_struct scopes (record { name = name; fields = fields })) ≡ true
fields_filled scopes name [] stands = stands
fields_filled scopes name (field ∷ fields) stands =
    mapped (λ field. is_name field.name.text) (λ field. field.name.text) is_name (λ field is. is) (map (named_field scopes) (field ∷ fields))
    (mapped field_named (named_field scopes) (λ field. is_name field.name.text) (field_is scopes) (field ∷ fields) stands)

struct_is : (scopes : Scopes) (one : RawItem) → item_stands one ≡ true → list_all fields_named (structs_of scopes one) ≡ true
struct_is scopes (item.Struct def) stands =
    and_from (fields_named (named_struct scopes def)) true (fields_filled scopes def.name def.fields
    (and_second (named def.name) (is_filled def.fields && list_all field_named def.fields) stands)) refl
struct_is scopes (item.Constant constant) stands = refl
struct_is scopes (item.Unit def) stands = refl

pub fields_are_named : (items : List RawItem) (bytes : ℕ) → list_all item_stands items ≡ true →
    list_all fields_named (named_program items bytes).structs ≡ true
fields_are_named items bytes = along_holds item_stands structs_of fields_named struct_is file_scope items

abbrev struct_has_name : NamedStruct → Bool
struct_has_name def = is_name def.name.text

abbrev unit_has_name : NamedUnit → Bool
unit_has_name unit = is_name unit.name.text

struct_name : (scopes : Scopes) (one : RawItem) → item_stands one ≡ true → list_all struct_has_name (structs_of scopes one) ≡ true
struct_name scopes (item.Struct def) stands = one_named def.name (is_filled def.fields && list_all field_named def.fields) stands
struct_name scopes (item.Constant constant) stands = refl
struct_name scopes (item.Unit def) stands = refl

unit_name : (scopes : Scopes) (one : RawItem) → item_stands one ≡ true → list_all unit_has_name (units_of scopes one) ≡ true
unit_name scopes (item.Struct def) stands = refl
unit_name scopes (item.Constant constant) stands = refl
unit_name scopes (item.Unit def) stands =
    one_named def.name (list_all param_named def.inputs && list_all param_named def.outputs)
    (and_first (named def.name && (list_all param_named def.inputs && list_all param_named def.outputs))
    (optional type_named def.result && list_all stmt_stands def.body) stands)

pub names_are : (items : List RawItem) (bytes : ℕ) → list_all item_stands items ≡ true →
    list_all is_name (all_names (named_program items bytes)) ≡ true
names_are items bytes stand =
    let named = named_program items bytes in
    all_append is_name (map (λ def. def.name.text) named.structs) (map (λ unit. unit.name.text) named.units)
    (mapped struct_has_name (λ def. def.name.text) is_name (λ def is. is) named.structs
    (along_holds item_stands structs_of struct_has_name struct_name file_scope items stand))
    (mapped unit_has_name (λ unit. unit.name.text) is_name (λ unit is. is) named.units
    (along_holds item_stands units_of unit_has_name unit_name file_scope items stand))
