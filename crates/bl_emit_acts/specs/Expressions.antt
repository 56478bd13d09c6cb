-- The C expressions of expressions, and the C places of paths.
use Rattle.std.specs.Prelude.{ℕ, ℤ, pos, Bool, true, false, ◌&&◌, ◌||◌, List, [], ◌∷◌, ◌++◌, map, Option, Some, None}
use Rattle.std.specs.Prelude.{bytes_eq, codes, is_none, option_and_then, option_map, slice_get, unwrap_or, if◌then◌else◌}
use Rattle.std.specs.Ordering.{int_eq}
use Rattle.bl_tree.specs.declared.text.Text.{Text}
use Rattle.bl_tree.specs.declared.c.CArg.{CArg}
use Rattle.bl_tree.specs.declared.c.CArg.TheVariants.{Value, Address}
use Rattle.bl_tree.specs.declared.c.CExpr.{CExpr, out-CExpr}
use Rattle.bl_tree.specs.declared.c.CExprKind.{out-CExprKind}
use Rattle.bl_tree.specs.declared.c.CArg.TheOpen.{CExprKind-F}
use Rattle.bl_tree.specs.declared.c.CPlace.{CPlace, out-CPlace}
use Rattle.bl_tree.specs.declared.c.CStep.{CStep, out-CStep}
use Rattle.bl_tree.specs.declared.scalar.Op.{Op}
use Rattle.bl_tree.specs.declared.scalar.Op.TheVariants.{Add, Sub, Mul, Div, Rem, Minus, BitAnd, BitOr, BitXor, BitNot, Shl, Shr, Eq, Ne, Lt, Le, Gt, Ge, And}
use Rattle.bl_tree.specs.declared.scalar.Op.TheVariants.{Or, Not}
use Rattle.bl_tree.specs.declared.scalar.Scalar.{Scalar as ScalarType}
use Rattle.bl_tree.specs.declared.scalar.Scalar.TheVariants.{Bool as OfBool}
use Rattle.bl_tree.specs.declared.tree.Expr.{Expr, fold-Expr}
use Rattle.bl_tree.specs.declared.tree.ExprKind.TheOpen.{ExprKind-F, Part-F, Path-F, Expr-F}
use Rattle.bl_tree.specs.declared.tree.Field.{Field}
use Rattle.bl_tree.specs.declared.tree.Part.{Part, fold-Part}
use Rattle.bl_tree.specs.declared.tree.Path.{Path, fold-Path}
use Rattle.bl_tree.specs.declared.tree.StructDef.{StructDef}
use Rattle.bl_tree.specs.declared.tree.Ty.{Ty, out-Ty}
use Rattle.bl_tree.specs.declared.tree.Ty.TheOpen.{Ty-F}
use Rattle.bl_tree.specs.declared.tree.Unit.{Unit as UnitDef}
use Rattle.bl_tree.specs.declared.tree.Var.{Var}
use Rattle.bl_tree.specs.Scalar.{high_of, is_int, low_of}
use Rattle.bl_tree.specs.Types.{scalar_in}
use Rattle.bl_tree.specs.Typing.{TypingContext, element_in, var_at}
use Rattle.bl_emit_acts.specs.declared.made.Made.{Made}
use Rattle.bl_emit_acts.specs.declared.made.Made.TheVariants.{Number, Whole}
use Rattle.bl_emit_acts.specs.Places.{place_in}
use Rattle.bl_emit_acts.specs.Trees.{c_called, c_element, c_index, c_literal, c_not, c_place, c_read, c_step, c_two}
use Rattle.bl_emit_acts.specs.Types.{c_scalar, copy_name, elements_name, field_name, type_word, unit_name}

-- ---- what is made of an expression

-- the type of a number; a struct or an array has none
abbrev pub type_made : Made → ScalarType
type_made (Number s code) = s
type_made (Whole place) = OfBool

-- the C expression
abbrev pub code_of : Made → CExpr
code_of (Number s code) = code
code_of (Whole place) = c_read place

-- an argument: a number by value, a struct or an array by its place
abbrev pub arg_of : Made → CArg
arg_of (Number s code) = Value code
arg_of (Whole place) = Address place

-- what stands at a place
abbrev pub made_at : Option ScalarType → CPlace → Made
made_at (Some s) place = Number s (c_read place)
made_at None place = Whole place

-- ---- operators

-- the word of an operator in the names of the prelude's functions; others have none
abbrev pub operator_word : Op → Text
operator_word Add = codes "add"
operator_word Sub = codes "sub"
operator_word Mul = codes "mul"
operator_word Div = codes "div"
operator_word Rem = codes "rem"
operator_word Minus = codes "neg"
operator_word BitAnd = codes "and"
operator_word BitOr = codes "or"
operator_word BitXor = codes "xor"
operator_word BitNot = codes "not"
operator_word Shl = codes "shl"
operator_word Shr = codes "shr"
operator_word _ = []

-- the prelude's function for an operation on a type
abbrev pub function_name : Text → ScalarType → Text
function_name word t = codes "bl_" ++ (word ++ (codes "_" ++ type_word t))

-- the word of the cast from a signed (true) or an unsigned type
abbrev pub cast_word : Bool → Text
cast_word true = codes "of_s"
cast_word false = codes "of_u"

-- a number of the first type as one of the second
abbrev pub c_cast : ScalarType → ScalarType → CExpr → CExpr
c_cast from to code = c_called (function_name (cast_word (is_int from)) to) (Value code ∷ [])

-- the expression in a form whose value a compiler can't tell: in `&& true`, or in a cast to its own type. Compilers warn of comparisons that have one answer
abbrev pub hidden : ScalarType → CExpr → CExpr
hidden OfBool code = c_two And code (c_literal OfBool (pos 1))
hidden s code = c_cast s s code

-- whether a kind of expression is a number
abbrev pub is_literal_kind : {A B C D E F G : Type 0} → CExprKind-F A B C D E F G → Bool
is_literal_kind (CExprKind-F.Literal s n) = true
is_literal_kind _ = false

-- whether an expression is a constant
abbrev pub is_constant : CExpr → Bool
is_constant code = is_literal_kind (out-CExprKind (out-CExpr code).what)

-- whether all numbers of a type, on the left of the operator, compare with this one alike
abbrev pub compares_alike : Op → ScalarType → ℤ → Bool
compares_alike Lt t n = int_eq n (low_of t)
compares_alike Ge t n = int_eq n (low_of t)
compares_alike Gt t n = int_eq n (high_of t)
compares_alike Le t n = int_eq n (high_of t)
compares_alike _ t n = false

-- whether a kind of expression is a constant with which all numbers of its type compare alike
abbrev pub kind_compares_alike : {A B C D E F G : Type 0} → Op → CExprKind-F A B C D E F G → Bool
kind_compares_alike op (CExprKind-F.Literal t n) = compares_alike op t n
kind_compares_alike op _ = false

-- whether all numbers, on the left of the operator, compare with the expression alike, since that is a constant at an end of its type
abbrev pub is_decided : Op → CExpr → Bool
is_decided op code = kind_compares_alike op (out-CExprKind (out-CExpr code).what)

-- the operator that compares with its sides exchanged
abbrev pub mirrored : Op → Op
mirrored Lt = Gt
mirrored Le = Ge
mirrored Gt = Lt
mirrored Ge = Le
mirrored op = op

-- whether two steps lead to the same member, which is no array
abbrev pub same_step : CStep → CStep → Bool
same_step p q =
    bytes_eq (out-CStep p).member (out-CStep q).member && (is_none (out-CStep p).index && is_none (out-CStep q).index)

-- whether steps lead to the same member, through no array
abbrev pub same_steps : List CStep → List CStep → Bool
same_steps [] [] = true
same_steps (p ∷ ps) (q ∷ qs) = same_step p q && same_steps ps qs
same_steps _ _ = false

-- whether two places have one name and the same steps, through no array
abbrev pub same_written : CPlace → CPlace → Bool
same_written p q = bytes_eq (out-CPlace p).name (out-CPlace q).name && same_steps (out-CPlace p).steps (out-CPlace q).steps

-- whether two kinds of expressions read places that are written alike
abbrev pub same_kinds : {A B C D E F : Type 0} → CExprKind-F A B C D E CPlace F → CExprKind-F A B C D E CPlace F → Bool
same_kinds (CExprKind-F.Read p) (CExprKind-F.Read q) = same_written p q
same_kinds _ _ = false

-- whether two expressions read places that are written alike
abbrev pub same_read : CExpr → CExpr → Bool
same_read a b = same_kinds (out-CExprKind (out-CExpr a).what) (out-CExprKind (out-CExpr b).what)

-- a side of a comparison, hidden or as it is
abbrev pub side : Bool → ScalarType → CExpr → CExpr
side hides s code = if hides then hidden s code else code

-- whether the right side of a comparison is hidden: all compare with it alike, or both sides are constants, or both are written alike
abbrev pub hides_right : Op → CExpr → CExpr → Bool
hides_right op a b = is_decided op b || ((is_constant a && is_constant b) || same_read a b)

-- a comparison of two numbers of a type. What compilers can tell from its text is hidden
abbrev pub c_compare : Op → ScalarType → CExpr → CExpr → CExpr
c_compare op s a b = c_two op (side (is_decided (mirrored op) a) s a) (side (hides_right op a b) s b)

-- an operator by the prelude's function of its name
abbrev pub c_function : Op → ScalarType → List CArg → Made
c_function op s args = Number s (c_called (function_name (operator_word op) s) args)

-- an operator with one operand, which is of this type
abbrev pub c_one : Op → ScalarType → CExpr → Made
c_one Not s a = Number OfBool (c_not a)
c_one op s a = c_function op s (Value a ∷ [])

-- an operator with two operands, which are of this type
abbrev pub c_both : Op → ScalarType → CExpr → CExpr → Made
c_both Eq s a b = Number OfBool (c_compare Eq s a b)
c_both Ne s a b = Number OfBool (c_compare Ne s a b)
c_both Lt s a b = Number OfBool (c_compare Lt s a b)
c_both Le s a b = Number OfBool (c_compare Le s a b)
c_both Gt s a b = Number OfBool (c_compare Gt s a b)
c_both Ge s a b = Number OfBool (c_compare Ge s a b)
c_both And s a b = Number OfBool (c_two And a b)
c_both Or s a b = Number OfBool (c_two Or a b)
c_both op s a b = c_function op s (Value a ∷ Value b ∷ [])

-- a call of a function for its result
abbrev pub made_call : Option UnitDef → List CArg → Made
made_call (Some unit) args = Number (unwrap_or unit.result OfBool) (c_called (unit_name unit.name) args)
made_call None args = Number OfBool (c_called (unit_name []) args)

-- ---- paths

-- a step into a value of a type, and the type of what it leads to; none where the type has no such part
pub record SteppedType : Type 0 where
  pub step : CStep
  pub ty : Option Ty

-- a place, and the type of what stands there
pub record Stood : Type 0 where
  pub place : CPlace
  pub ty : Ty

-- what a part of a path is, from the type that it steps into
abbrev pub PathStepTyping : Type 0
PathStepTyping = Option Ty → SteppedType

-- the field of a struct at a position; other types have none
abbrev pub field_of_struct : List StructDef → ℕ → Ty-F Ty → Option Field
field_of_struct structs k (Ty-F.Struct s) = option_and_then (λ def. slice_get def.fields k) (slice_get structs s)
field_of_struct structs k _ = None

-- a field of a type; none where it has no such field
abbrev pub field_at : List StructDef → ℕ → Option Ty → Option Field
field_at structs k ty = option_and_then (λ ty. field_of_struct structs k (out-Ty ty)) ty

-- how many elements a type has, where it is an array
abbrev pub length_in : Ty-F Ty → ℕ
length_in (Ty-F.Array n element) = n
length_in _ = 0

-- how many elements an array has
abbrev pub length_at : Option Ty → ℕ
length_at (Some ty) = length_in (out-Ty ty)
length_at None = 0

-- the type of an array's elements
abbrev pub array_element_type : Option Ty → Option Ty
array_element_type ty = option_and_then (λ ty. element_in (out-Ty ty)) ty

-- the name of a field
abbrev pub name_of_field : Option Field → Text
name_of_field (Some field) = field.name
name_of_field None = []

-- the step of a field or of an index
abbrev pub part_steps : TypingContext → Part-F Made PathStepTyping Made Stood → PathStepTyping
part_steps site (Part-F.Field k) ty =
    record {
      step = c_step (field_name (name_of_field (field_at site.structs k ty)));
      ty = option_map (λ field. field.ty) (field_at site.structs k ty);
    }
part_steps site (Part-F.Index e) ty =
    record { step = c_element elements_name (c_index (is_int (type_made e)) (code_of e) (length_at ty)); ty = array_element_type ty }

-- the steps of parts, each into the type to which those before it lead
abbrev pub steps_of : List PathStepTyping → Option Ty → List CStep
steps_of [] ty = []
steps_of (part ∷ rest) ty = (part ty).step ∷ steps_of rest (part ty).ty

-- the type of a variable
abbrev pub type_at : Option Var → Option Ty
type_at var = option_map (λ var. var.ty) var

-- the place of a path, and the type of what it leads to
abbrev pub path_stands : TypingContext → Path-F Made PathStepTyping Made Stood → Stood
path_stands site path =
    record { place = place_in site path.root (steps_of path.parts (type_at (var_at site path.root))); ty = path.ty }

-- ---- expressions

-- the type of a variable without parts
abbrev pub scalar_at : Option Var → ScalarType
scalar_at var = unwrap_or (option_and_then scalar_in (type_at var)) OfBool

-- what is made of each kind of expression
abbrev pub kind_made : TypingContext → ExprKind-F Made PathStepTyping Made Stood → Made
kind_made site (ExprKind-F.Literal n s) = Number s (c_literal (c_scalar s) n)
kind_made site (ExprKind-F.Read path) = made_at (scalar_in path.ty) path.place
kind_made site (ExprKind-F.Prev k) = Number (scalar_at (var_at site k)) (c_read (c_place false (copy_name site.vars k) []))
kind_made site (ExprKind-F.One op a) = c_one op (type_made a) (code_of a)
kind_made site (ExprKind-F.Two op a b) = c_both op (type_made a) (code_of a) (code_of b)
kind_made site (ExprKind-F.Cast target a) = Number target (c_cast (type_made a) target (code_of a))
kind_made site (ExprKind-F.Call f inputs) = made_call (slice_get site.earlier f) (map arg_of inputs)

-- what is made of an expression, by what is made of its kind
abbrev pub expr_made : Expr-F Made PathStepTyping Made Stood → Made
expr_made e = e.what

-- what is made of an expression
abbrev pub made_of : TypingContext → Expr → Made
made_of site = fold-Expr Made PathStepTyping Made Stood (kind_made site) (part_steps site) expr_made (path_stands site)

-- the place of a path
abbrev pub stands : TypingContext → Path → Stood
stands site = fold-Path Made PathStepTyping Made Stood (kind_made site) (part_steps site) expr_made (path_stands site)

-- the step of a part into a type
abbrev pub step_typing : TypingContext → Part → PathStepTyping
step_typing site = fold-Part Made PathStepTyping Made Stood (kind_made site) (part_steps site) expr_made (path_stands site)
