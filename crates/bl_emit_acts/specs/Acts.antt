-- The C of acts: of assignments, of declarations, and of calls of functions without a result.
use Rattle.std.specs.Prelude.{ℕ, pos, Bool, true, false, List, [], ◌∷◌, ◌++◌, map, Option, Some, None, slice_get, unwrap_or}
use Rattle.bl_tree.specs.declared.text.Text.{Text}
use Rattle.bl_tree.specs.declared.c.CArg.{CArg}
use Rattle.bl_tree.specs.declared.c.CArg.TheVariants.{Address}
use Rattle.bl_tree.specs.declared.c.CCall.{CCall}
use Rattle.bl_tree.specs.declared.c.CExpr.{CExpr}
use Rattle.bl_tree.specs.declared.c.CPlace.{CPlace}
use Rattle.bl_tree.specs.declared.c.CStmt.{CStmt, roll-CStmt}
use Rattle.bl_tree.specs.declared.c.CStmtKind.{CStmtKind}
use Rattle.bl_tree.specs.declared.c.CStmtKind.TheVariants as statement
use Rattle.bl_tree.specs.declared.scalar.Scalar.{Scalar as ScalarType}
use Rattle.bl_tree.specs.declared.tree.Expr.{Expr}
use Rattle.bl_tree.specs.declared.tree.Path.{Path}
use Rattle.bl_tree.specs.declared.tree.Stmt.{Stmt, out-Stmt}
use Rattle.bl_tree.specs.declared.tree.StmtKind.{out-StmtKind}
use Rattle.bl_tree.specs.declared.tree.StmtKind.TheOpen.{StmtKind-F}
use Rattle.bl_tree.specs.declared.tree.StructDef.{StructDef}
use Rattle.bl_tree.specs.declared.tree.Ty.{Ty}
use Rattle.bl_tree.specs.declared.tree.Unit.{Unit as UnitDef}
use Rattle.bl_tree.specs.Types.{scalar_in}
use Rattle.bl_tree.specs.Typing.{TypingContext, var_at}
use Rattle.bl_emit_acts.specs.Expressions.{arg_of, code_of, made_of, stands, type_at}
use Rattle.bl_emit_acts.specs.Places.{place_in}
use Rattle.bl_emit_acts.specs.Trees.{c_call, c_literal, c_place, c_read, nowhere}
use Rattle.bl_emit_acts.specs.Types.{c_scalar, copy_name, type_name, unit_name}

-- ---- statements

-- a statement without a place
abbrev pub c_stmt : CStmtKind → CStmt
c_stmt what = roll-CStmt (record { place = nowhere; what = what })

-- place = value
abbrev pub c_set : CPlace → CExpr → CStmt
c_set place value = c_stmt (statement.Set place value)

-- the statement that sets a struct of this name to 0 or false everywhere
abbrev pub c_clear : CPlace → Text → CStmt
c_clear place name = c_stmt (statement.Clear place name)

-- a call as a statement
abbrev pub c_calling : CCall → CStmt
c_calling call = c_stmt (statement.Call call)

-- ---- declarations

-- the statement that sets a place of a type to 0 or false everywhere
abbrev pub c_zeroed : List StructDef → CPlace → Ty → Option ScalarType → CStmt
c_zeroed structs place ty (Some s) = c_set place (c_literal (c_scalar s) (pos 0))
c_zeroed structs place ty None = c_clear place (type_name structs ty)

-- the statement that sets a place to 0 or false everywhere, if the type of the place is known
abbrev pub zeroed : List StructDef → CPlace → Option Ty → List CStmt
zeroed structs place (Some ty) = c_zeroed structs place ty (scalar_in ty) ∷ []
zeroed structs place None = []

-- the C expression of an expression
abbrev pub code_made : TypingContext → Expr → CExpr
code_made site e = code_of (made_of site e)

-- the initial value of the variable at a position, 0 or false where none is written
abbrev pub initial_code : TypingContext → ℕ → Option Expr → List CStmt
initial_code site k (Some e) = c_set (place_in site k []) (code_made site e) ∷ []
initial_code site k None = zeroed site.structs (place_in site k []) (type_at (var_at site k))

-- the copy of a variable becomes what the variable is
abbrev pub c_copied : TypingContext → ℕ → CStmt
c_copied site k = c_set (c_place false (copy_name site.vars k) []) (c_read (place_in site k []))

-- the statement that gives the copy of a declared variable its value, if it has a copy
abbrev pub copy_code : TypingContext → Bool → ℕ → List CStmt
copy_code site true k = c_copied site k ∷ []
copy_code site false k = []

-- whether the variable at a position has a copy of what it was when the tick began
abbrev pub is_copied : List Bool → ℕ → Bool
is_copied copies k = unwrap_or (slice_get copies k) false

-- a declaration: the initial value, and that of the copy
abbrev pub declared_code : TypingContext → List Bool → ℕ → Option Expr → List CStmt
declared_code site copies k initial = initial_code site k initial ++ copy_code site (is_copied copies k) k

-- ---- calls

-- the name of a function
abbrev pub name_of_callee : Option UnitDef → Text
name_of_callee (Some unit) = unit_name unit.name
name_of_callee None = unit_name []

-- the argument for an output
abbrev pub output_arg : TypingContext → Path → CArg
output_arg site path = Address (stands site path).place

-- the arguments of a call: those of the inputs, then those of the outputs
abbrev pub call_args : TypingContext → List Expr → List Path → List CArg
call_args site inputs outputs = map arg_of (map (made_of site) inputs) ++ map (output_arg site) outputs

-- the C call of a function, with the arguments for its inputs and outputs
abbrev pub call_made : TypingContext → ℕ → List Expr → List Path → CCall
call_made site f inputs outputs = c_call (name_of_callee (slice_get site.earlier f)) (call_args site inputs outputs)

-- ---- acts

-- the C of an act that stands at a site, from which of the unit's variables have copies. Other statements are no acts
abbrev pub layer_code : {A B C D : Type 0} → TypingContext → List Bool → StmtKind-F A B C D → List CStmt
layer_code site copies (StmtKind-F.Declare k initial) = declared_code site copies k initial
layer_code site copies (StmtKind-F.Assign path e) = c_set (stands site path).place (code_made site e) ∷ []
layer_code site copies (StmtKind-F.Call f inputs outputs) = c_calling (call_made site f inputs outputs) ∷ []
layer_code site copies _ = []

-- the C of a statement that is an act
abbrev pub act_code : TypingContext → List Bool → Stmt → List CStmt
act_code site copies s = layer_code site copies (out-StmtKind (out-Stmt s).what)
