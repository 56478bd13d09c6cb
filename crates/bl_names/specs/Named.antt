-- Programs with positions in place of names.
use Rattle.std.specs.Prelude.{ℕ, false, List, [], ◌∷◌, ◌++◌, map, length, Option, Some, None, option_map}
use Rattle.bl_tree.specs.declared.tree.Role.{Role}
use Rattle.bl_tree.specs.declared.tree.Role.TheVariants as role
use Rattle.bl_tree.specs.declared.tree.UnitKind.{UnitKind}
use Rattle.bl_tree.specs.declared.tree.UnitKind.TheVariants as unit
use Rattle.bl_tree.specs.Reduce.{joined}
use Rattle.bl_parse_tree.specs.declared.expr.RawExpr.{RawExpr}
use Rattle.bl_parse_tree.specs.declared.item.RawField.{RawField}
use Rattle.bl_parse_tree.specs.declared.item.RawItem.{RawItem}
use Rattle.bl_parse_tree.specs.declared.item.RawItem.TheVariants as item
use Rattle.bl_parse_tree.specs.declared.item.RawParam.{RawParam}
use Rattle.bl_parse_tree.specs.declared.item.RawStruct.{RawStruct}
use Rattle.bl_parse_tree.specs.declared.item.RawUnit.{RawUnit}
use Rattle.bl_parse_tree.specs.declared.name.Name.{Name}
use Rattle.bl_parse_tree.specs.declared.stmt.RawArm.{RawArm, fold-RawArm}
use Rattle.bl_parse_tree.specs.declared.stmt.RawBranch.{RawBranch, fold-RawBranch}
use Rattle.bl_parse_tree.specs.declared.stmt.RawConstant.{RawConstant}
use Rattle.bl_parse_tree.specs.declared.stmt.RawStmt.{RawStmt, fold-RawStmt}
use Rattle.bl_parse_tree.specs.declared.stmt.RawStmtKind.{RawStmtKind, fold-RawStmtKind}
use Rattle.bl_parse_tree.specs.declared.stmt.RawStmtKind.TheOpen.{RawStmtKind-F, RawArm-F, RawBranch-F, RawStmt-F}
use Rattle.bl_parse_tree.specs.declared.types.RawType.{RawType}
use Rattle.bl_names_tree.specs.declared.expr.NamedExpr.{roll-NamedExpr}
use Rattle.bl_names_tree.specs.declared.expr.NamedExprKind.TheVariants as expr_kind
use Rattle.bl_names_tree.specs.declared.item.NamedConstant.{NamedConstant}
use Rattle.bl_names_tree.specs.declared.item.NamedField.{NamedField}
use Rattle.bl_names_tree.specs.declared.item.NamedStruct.{NamedStruct}
use Rattle.bl_names_tree.specs.declared.item.NamedUnit.{NamedUnit}
use Rattle.bl_names_tree.specs.declared.item.NamedVar.{NamedVar}
use Rattle.bl_names_tree.specs.declared.named.Named.{Named}
use Rattle.bl_names_tree.specs.declared.stmt.NamedArm.{NamedArm, roll-NamedArm}
use Rattle.bl_names_tree.specs.declared.stmt.NamedBranch.{NamedBranch, roll-NamedBranch}
use Rattle.bl_names_tree.specs.declared.stmt.NamedStmt.{NamedStmt, roll-NamedStmt}
use Rattle.bl_names_tree.specs.declared.stmt.NamedStmtKind.{NamedStmtKind}
use Rattle.bl_names_tree.specs.declared.stmt.NamedStmtKind.TheVariants as what
use Rattle.bl_names_scopes.specs.declared.heading.Heading.{Heading}
use Rattle.bl_names_scopes.specs.declared.kind.Kind.{Kind}
use Rattle.bl_names_scopes.specs.declared.kind.Kind.TheVariants as kind
use Rattle.bl_names_scopes.specs.declared.kind.Wanted.TheVariants as wanted
use Rattle.bl_names_scopes.specs.Marks.{Marks, opens, uses, argument_marks, constant_marks, declared_after, expr_marks, in_scope, item_marks, optional}
use Rattle.bl_names_scopes.specs.Marks.{param_marks, path_marks, target_marks, type_marks}
use Rattle.bl_names.specs.Naming.{named_expr, named_path, named_target, named_type, position}
use Rattle.bl_names.specs.Order.{order_of}
use Rattle.bl_names_scopes.specs.Scopes.{Scopes, after, enter, file_scope, opened_by}

-- the naming of a part of a program: its marks, its named form in open scopes, and the variables and constants that it declares
pub record Piece (A : Type 0) : Type 0 where
  pub marks : Marks
  pub made : Scopes → A
  pub vars : Scopes → List NamedVar
  pub constants : Scopes → List NamedConstant

-- the marks of several parts, one after another
abbrev pub marks_of_all : {A : Type 0} → List (Piece A) → Marks
marks_of_all pieces = joined (map (λ piece. piece.marks) pieces)

-- the named forms of several parts, each in the scopes that those before it leave
abbrev pub made_of_all : {A : Type 0} → List (Piece A) → Scopes → List A
made_of_all [] scopes = []
made_of_all (piece ∷ rest) scopes = piece.made scopes ∷ made_of_all rest (after scopes piece.marks)

-- the variables that parts declare one after another
abbrev pub vars_of_all : {A : Type 0} → List (Piece A) → Scopes → List NamedVar
vars_of_all [] scopes = []
vars_of_all (piece ∷ rest) scopes = piece.vars scopes ++ vars_of_all rest (after scopes piece.marks)

-- the constants that parts declare one after another
abbrev pub constants_of_all : {A : Type 0} → List (Piece A) → Scopes → List NamedConstant
constants_of_all [] scopes = []
constants_of_all (piece ∷ rest) scopes = piece.constants scopes ++ constants_of_all rest (after scopes piece.marks)

-- parts one after another, as one
abbrev pub all : {A : Type 0} → List (Piece A) → Piece (List A)
all pieces = record { marks = marks_of_all pieces; made = made_of_all pieces; vars = vars_of_all pieces; constants = constants_of_all pieces }

-- no variable, or no constant, whatever scopes are open
abbrev pub none : {A : Type 0} → Scopes → List A
none scopes = []

-- the scopes after a new innermost one begins
abbrev pub opened : Scopes → Scopes
opened scopes = enter scopes opens

-- a part, and then another, which is what is made
abbrev pub followed : {A B : Type 0} → Piece A → Piece B → Piece B
followed first second = record {
  marks = first.marks ++ second.marks;
  made = λ scopes. second.made (after scopes first.marks);
  vars = λ scopes. first.vars scopes ++ second.vars (after scopes first.marks);
  constants = λ scopes. first.constants scopes ++ second.constants (after scopes first.marks);
}

-- a part in a scope of its own
abbrev pub own_scope : {A : Type 0} → Piece A → Piece A
own_scope piece = record {
  marks = in_scope piece.marks;
  made = λ scopes. piece.made (opened scopes);
  vars = λ scopes. piece.vars (opened scopes);
  constants = λ scopes. piece.constants (opened scopes);
}

-- a part that declares nothing
abbrev pub plain : {A : Type 0} → Marks → (Scopes → A) → Piece A
plain marks made = record { marks = marks; made = made; vars = none; constants = none }

-- statements in a scope of their own, entered after the given marks
abbrev pub scoped : {A : Type 0} → Marks → Marks → List (Piece NamedStmt) → (Scopes → List NamedStmt → A) → Piece A
scoped before marks body made = record {
  marks = marks;
  made = λ scopes. made scopes (made_of_all body (opened (after scopes before)));
  vars = λ scopes. vars_of_all body (opened (after scopes before));
  constants = λ scopes. constants_of_all body (opened (after scopes before));
}

-- a variable with this name, type and role, with positions in its type
abbrev pub named_var : Scopes → Name → Option RawType → Role → NamedVar
named_var scopes name ty role = record { name = name; ty = option_map (named_type scopes) ty; role = role }

-- a constant with positions in its type and in its value
abbrev pub named_constant : Scopes → RawConstant → NamedConstant
named_constant scopes constant = record { name = constant.name; ty = option_map (named_type scopes) constant.ty; value = named_expr scopes constant.value }

-- a variable is declared with the next position
abbrev pub declaring : Name → Option RawType → Role → Option RawExpr → Marks → Piece NamedStmtKind
declaring name ty role value marks = record {
  marks = marks;
  made = λ scopes. what.Declare scopes.counts.variables (option_map (named_expr scopes) value);
  vars = λ scopes. named_var scopes name ty role ∷ [];
  constants = none;
}

-- a constant of a block is declared with the next position
abbrev pub constant_piece : RawConstant → Piece NamedStmtKind
constant_piece constant = record {
  marks = constant_marks constant;
  made = λ scopes. what.Const scopes.counts.constants;
  vars = none;
  constants = λ scopes. named_constant scopes constant ∷ [];
}

-- the naming of one layer of a statement; each of its arms, branches and blocks has a scope of its own
abbrev pub kind_piece : RawStmtKind-F (Piece NamedStmtKind) (Piece NamedArm) (Piece NamedBranch) (Piece NamedStmt) → Piece NamedStmtKind
kind_piece (RawStmtKind-F.Var name ty value) =
    declaring name ty role.Variable value (declared_after (optional type_marks ty ++ optional expr_marks value) name kind.Variable)
kind_piece (RawStmtKind-F.Let name ty value) =
    declaring name ty role.Fixed (Some value) (declared_after (optional type_marks ty ++ expr_marks value) name kind.Variable)
kind_piece (RawStmtKind-F.Const constant) = constant_piece constant
kind_piece (RawStmtKind-F.Assign target e) =
    plain (target_marks target wanted.Variable ++ expr_marks e) (λ scopes. what.Assign (named_target scopes target) (named_expr scopes e))
kind_piece (RawStmtKind-F.Call f inputs outputs) =
    plain (uses f wanted.Function ∷ argument_marks inputs outputs)
    (λ scopes. what.Call f.place (position scopes f) (map (named_expr scopes) inputs) (map (named_path scopes) outputs))
kind_piece (RawStmtKind-F.Await e) = plain (expr_marks e) (λ scopes. what.Await (named_expr scopes e))
kind_piece (RawStmtKind-F.Run target a inputs outputs) =
    plain (optional path_marks target ++ (uses a wanted.Activity ∷ argument_marks inputs outputs))
    (λ scopes. what.Run (option_map (named_path scopes) target) a.place (position scopes a) (map (named_expr scopes) inputs) (map (named_path scopes) outputs))
kind_piece (RawStmtKind-F.If arms other) = record {
  marks = marks_of_all arms ++ in_scope (marks_of_all other);
  made = λ scopes. what.If (made_of_all arms scopes) (made_of_all other (opened (after scopes (marks_of_all arms))));
  vars = λ scopes. vars_of_all arms scopes ++ vars_of_all other (opened (after scopes (marks_of_all arms)));
  constants = λ scopes. constants_of_all arms scopes ++ constants_of_all other (opened (after scopes (marks_of_all arms)));
}
kind_piece (RawStmtKind-F.Cobegin branches) = record {
  marks = marks_of_all branches;
  made = λ scopes. what.Cobegin (made_of_all branches scopes);
  vars = vars_of_all branches;
  constants = constants_of_all branches;
}
kind_piece (RawStmtKind-F.When guard e body) =
    scoped (expr_marks e) (expr_marks e ++ in_scope (marks_of_all body)) body (λ scopes made. what.When guard (named_expr scopes e) made)
kind_piece (RawStmtKind-F.Repeat body) = scoped [] (in_scope (marks_of_all body)) body (λ scopes made. what.Repeat made)
kind_piece (RawStmtKind-F.Until body e) = scoped [] (in_scope (marks_of_all body) ++ expr_marks e) body (λ scopes made. what.Until made (named_expr scopes e))
kind_piece (RawStmtKind-F.While e body) =
    scoped (expr_marks e) (expr_marks e ++ in_scope (marks_of_all body)) body (λ scopes made. what.While (named_expr scopes e) made)
kind_piece (RawStmtKind-F.Return e) = plain (optional expr_marks e) (λ scopes. what.Return (option_map (named_expr scopes) e))

-- an arm of an `if`: its condition, and then its block in a scope of its own
abbrev pub arm_piece : RawArm-F (Piece NamedStmtKind) (Piece NamedArm) (Piece NamedBranch) (Piece NamedStmt) → Piece NamedArm
arm_piece arm =
    scoped (expr_marks arm.test) (expr_marks arm.test ++ in_scope (marks_of_all arm.body)) arm.body
    (λ scopes made. roll-NamedArm (record { test = named_expr scopes arm.test; body = made }))

-- a branch: its block in a scope of its own
abbrev pub branch_piece : RawBranch-F (Piece NamedStmtKind) (Piece NamedArm) (Piece NamedBranch) (Piece NamedStmt) → Piece NamedBranch
branch_piece branch = scoped [] (in_scope (marks_of_all branch.body)) branch.body
    (λ scopes made. roll-NamedBranch (record { weak = branch.weak; body = made }))

-- a statement is made at its place of what it does
abbrev pub stmt_layer_piece : RawStmt-F (Piece NamedStmtKind) (Piece NamedArm) (Piece NamedBranch) (Piece NamedStmt) → Piece NamedStmt
stmt_layer_piece s = record {
  marks = s.what.marks;
  made = λ scopes. roll-NamedStmt (record { place = s.place; what = s.what.made scopes });
  vars = s.what.vars;
  constants = s.what.constants;
}

-- the naming of a statement
abbrev pub stmt_piece : RawStmt → Piece NamedStmt
stmt_piece = fold-RawStmt (Piece NamedStmtKind) (Piece NamedArm) (Piece NamedBranch) (Piece NamedStmt) kind_piece arm_piece branch_piece stmt_layer_piece

-- the naming of the kind of a statement
abbrev pub piece_of_kind : RawStmtKind → Piece NamedStmtKind
piece_of_kind = fold-RawStmtKind (Piece NamedStmtKind) (Piece NamedArm) (Piece NamedBranch) (Piece NamedStmt) kind_piece arm_piece branch_piece stmt_layer_piece

-- an arm of an `if` with all that stands in it
abbrev pub piece_of_arm : RawArm → Piece NamedArm
piece_of_arm = fold-RawArm (Piece NamedStmtKind) (Piece NamedArm) (Piece NamedBranch) (Piece NamedStmt) kind_piece arm_piece branch_piece stmt_layer_piece

-- a branch with all that stands in it
abbrev pub piece_of_branch : RawBranch → Piece NamedBranch
piece_of_branch = fold-RawBranch (Piece NamedStmtKind) (Piece NamedArm) (Piece NamedBranch) (Piece NamedStmt) kind_piece arm_piece branch_piece stmt_layer_piece

-- statements, arms and branches one after another
abbrev pub block_piece : List RawStmt → Piece (List NamedStmt)
block_piece body = all (map stmt_piece body)

-- the arms of an `if`, one after another
abbrev pub arms_piece : List RawArm → Piece (List NamedArm)
arms_piece arms = all (map piece_of_arm arms)

-- the branches of a `cobegin`, one after another
abbrev pub branches_piece : List RawBranch → Piece (List NamedBranch)
branches_piece branches = all (map piece_of_branch branches)

-- ---- items

-- a field with positions in its type
abbrev pub named_field : Scopes → RawField → NamedField
named_field scopes field = record { name = field.name; ty = named_type scopes field.ty }

-- a struct with positions in the types of its fields
abbrev pub named_struct : Scopes → RawStruct → NamedStruct
named_struct scopes def = record { name = def.name; fields = map (named_field scopes) def.fields }

-- a parameter, which is made as a variable and declares it
abbrev pub param_piece : Role → RawParam → Piece NamedVar
param_piece role param = record {
  marks = param_marks param;
  made = λ scopes. named_var scopes param.name (Some param.ty) role;
  vars = λ scopes. named_var scopes param.name (Some param.ty) role ∷ [];
  constants = none;
}

-- the naming of the parameters of one role
abbrev pub role_piece : Role → List RawParam → Piece (List NamedVar)
role_piece role params = all (map (param_piece role) params)

-- the parameters of a unit
abbrev pub params_piece : RawUnit → Piece (List NamedVar)
params_piece def = followed (role_piece role.Input def.inputs) (role_piece role.Output def.outputs)

-- the naming of a unit's parameters, and then of the statements directly in its body
abbrev pub inside_piece : RawUnit → Piece (List NamedStmt)
inside_piece def = followed (params_piece def) (block_piece def.body)

-- the named unit, where these scopes are open inside it
abbrev pub unit_inside : Scopes → RawUnit → NamedUnit
unit_inside scopes def = record {
  entry = def.entry;
  kind = def.kind;
  name = def.name;
  vars = (inside_piece def).vars scopes;
  inputs = length def.inputs;
  outputs = length def.outputs;
  result = option_map (named_type (after scopes (params_piece def).marks)) def.result;
  body = (inside_piece def).made scopes;
}

-- the named unit, where these scopes are open before it
abbrev pub named_unit : Scopes → RawUnit → NamedUnit
named_unit scopes = unit_inside (opened scopes)

-- the constants in the body of a unit
abbrev pub constants_in_unit : Scopes → RawUnit → List NamedConstant
constants_in_unit scopes def = (inside_piece def).constants (opened scopes)

-- the struct that an item is, where it is one
abbrev pub structs_of : Scopes → RawItem → List NamedStruct
structs_of scopes (item.Struct def) = named_struct scopes def ∷ []
structs_of scopes (item.Constant constant) = []
structs_of scopes (item.Unit def) = []

-- the constant that an item is, or those in the body of the unit that it is
abbrev pub constants_of : Scopes → RawItem → List NamedConstant
constants_of scopes (item.Struct def) = []
constants_of scopes (item.Constant constant) = named_constant scopes constant ∷ []
constants_of scopes (item.Unit def) = constants_in_unit scopes def

-- the unit that an item is, where it is one
abbrev pub units_of : Scopes → RawItem → List NamedUnit
units_of scopes (item.Struct def) = []
units_of scopes (item.Constant constant) = []
units_of scopes (item.Unit def) = named_unit scopes def ∷ []

-- what a function gives for each item, in the scopes that the items before it leave
abbrev pub along : {A : Type 0} → (Scopes → RawItem → List A) → Scopes → List RawItem → List A
along gives scopes [] = []
along gives scopes (one ∷ rest) = gives scopes one ++ along gives (after scopes (item_marks one)) rest

-- the named program of a raw tree
abbrev pub named_program : List RawItem → ℕ → Named
named_program items bytes = record {
  structs = along structs_of file_scope items;
  constants = along constants_of file_scope items;
  units = along units_of file_scope items;
  order = order_of items;
  bytes = bytes;
}

-- ---- behind headings

-- a struct without fields
abbrev pub empty_struct : Name → NamedStruct
empty_struct name = record { name = name; fields = [] }

-- an empty struct stands for the heading of a struct
abbrev pub blank_struct : Kind → Name → List NamedStruct
blank_struct kind.Struct name = empty_struct name ∷ []
blank_struct _ name = []

-- a constant without a type, of value 0
abbrev pub zero_constant : Name → NamedConstant
zero_constant name = record { name = name; ty = None; value = roll-NamedExpr (record { place = name.place; what = expr_kind.Number false 0 }) }

-- a constant of value 0 stands for the heading of a constant
abbrev pub blank_constant : Kind → Name → List NamedConstant
blank_constant kind.Constant name = zero_constant name ∷ []
blank_constant _ name = []

-- a unit without parameters, result, statements and mark
abbrev pub empty_unit : UnitKind → Name → NamedUnit
empty_unit kind name = record { entry = false; kind = kind; name = name; vars = []; inputs = 0; outputs = 0; result = None; body = [] }

-- an empty unit stands for the heading of a unit
abbrev pub blank_unit : Kind → Name → List NamedUnit
blank_unit kind.Function name = empty_unit unit.Function name ∷ []
blank_unit kind.Activity name = empty_unit unit.Activity name ∷ []
blank_unit _ name = []

-- what stands for headings in order
abbrev pub blanks : {A : Type 0} → (Kind → Name → List A) → List Heading → List A
blanks blank headings = joined (map (λ heading. blank heading.kind heading.name) headings)

-- a program behind headings: before its own structs, constants and units blank ones stand for the headings, so positions are those of the scopes
abbrev pub named_behind : List Heading → List RawItem → ℕ → Named
named_behind headings items bytes = record {
  structs = blanks blank_struct headings ++ along structs_of (opened_by headings) items;
  constants = blanks blank_constant headings ++ along constants_of (opened_by headings) items;
  units = blanks blank_unit headings ++ along units_of (opened_by headings) items;
  order = order_of items;
  bytes = bytes;
}
