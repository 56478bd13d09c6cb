-- The tokens that spell a text of the C subset, by cases on its tree. White space aside a tree has one spelling.
use Rattle.std.specs.Prelude.{ℕ, suc, ◌==◌, ◌^◌, ℤ, pos, negsuc, Bool, true, false, cond, List, [], ◌∷◌, ◌++◌, map, Option, Some, None, codes}
use Rattle.std.specs.Fmt.{decimal}
use Rattle.bl_tree.specs.declared.scalar.Width.{Width}
use Rattle.bl_tree.specs.declared.scalar.Width.TheVariants.{W8, W16, W32, W64}
use Rattle.bl_tree.specs.declared.scalar.Scalar.{Scalar}
use Rattle.bl_tree.specs.declared.scalar.Scalar.TheVariants as scalar
use Rattle.bl_tree.specs.declared.scalar.Op.{Op}
use Rattle.bl_tree.specs.declared.scalar.Op.TheVariants as op
use Rattle.bl_tree.specs.declared.c.CType.{CType}
use Rattle.bl_tree.specs.declared.c.CType.TheVariants as ctype
use Rattle.bl_tree.specs.declared.c.CMember.{CMember}
use Rattle.bl_tree.specs.declared.c.CStruct.{CStruct}
use Rattle.bl_tree.specs.declared.c.CParam.{CParam}
use Rattle.bl_tree.specs.declared.c.CLocal.{CLocal}
use Rattle.bl_tree.specs.declared.c.CFunc.{CFunc}
use Rattle.bl_tree.specs.declared.c.CPlace.{CPlace, CPlace-F, fold-CPlace}
use Rattle.bl_tree.specs.declared.c.CStep.{CStep, CStep-F, fold-CStep}
use Rattle.bl_tree.specs.declared.c.CIndex.{CIndex, CIndex-F, fold-CIndex}
use Rattle.bl_tree.specs.declared.c.CExpr.{CExpr, CExpr-F, fold-CExpr}
use Rattle.bl_tree.specs.declared.c.CExprKind.{CExprKind, CExprKind-F, fold-CExprKind}
use Rattle.bl_tree.specs.declared.c.CCall.{CCall, CCall-F, fold-CCall}
use Rattle.bl_tree.specs.declared.c.CArg.{CArg, CArg-F, fold-CArg}
use Rattle.bl_tree.specs.declared.c.CStmt.{CStmt, CStmt-F, fold-CStmt}
use Rattle.bl_tree.specs.declared.c.CStmtKind.{CStmtKind, CStmtKind-F, fold-CStmtKind}
use Rattle.bl_tree.specs.Reduce.{joined}
use Rattle.bl_ctext.specs.Folds.{EachIs}
use Rattle.bl_ctext.specs.Token.{Token}

-- what stands before a part of a list: nothing before the first
abbrev pub comma_before : Bool → List Token
comma_before true = []
comma_before false = codes "," ∷ []

-- the parts with a comma before each, but none before the first of all
abbrev pub listed : Bool → List (List Token) → List Token
listed first [] = []
listed first (part ∷ parts) = comma_before first ++ (part ++ listed false parts)

-- the parts with a comma between each two
abbrev pub with_commas : List (List Token) → List Token
with_commas parts = listed true parts

-- the digits of a width
abbrev pub width_digits : Width → List ℕ
width_digits W8 = codes "8"
width_digits W16 = codes "16"
width_digits W32 = codes "32"
width_digits W64 = codes "64"

-- The word of a type; a bits type and no type at all have none.
abbrev pub scalar_word : Scalar → Token
scalar_word scalar.Bool = codes "bool"
scalar_word (scalar.Int w) = codes "int" ++ (width_digits w ++ codes "_t")
scalar_word (scalar.Nat w) = codes "uint" ++ (width_digits w ++ codes "_t")
scalar_word (scalar.Bits w) = []

-- the tokens of a type
abbrev pub type_tokens : CType → List Token
type_tokens (ctype.Scalar s) = scalar_word s ∷ []
type_tokens (ctype.Struct name) = codes "struct" ∷ name ∷ []

-- `INTw_C` or `UINTw_C`
abbrev pub constant_word : List ℕ → Width → Token
constant_word kind w = kind ++ (width_digits w ++ codes "_C")

-- a constant's word and its digits in parentheses
abbrev pub constant_tokens : Token → ℕ → List Token
constant_tokens word n = word ∷ codes "(" ∷ decimal n ∷ codes ")" ∷ []

-- how many negative numbers an int type has
abbrev pub negatives : Width → ℕ
negatives W8 = 2 ^ 7
negatives W16 = 2 ^ 15
negatives W32 = 2 ^ 31
negatives W64 = 2 ^ 63

-- minus n of an int type: `INTw_MIN` where it is the least number, else a minus before its digits
abbrev pub negative_tokens : Width → ℕ → List Token
negative_tokens w n = cond (n == negatives w)
    ((codes "INT" ++ (width_digits w ++ codes "_MIN")) ∷ [])
    (codes "(" ∷ codes "-" ∷ (constant_tokens (constant_word (codes "INT") w) n ++ codes ")" ∷ []))

-- the tokens of a literal. A number out of the range of its type has none, but no file has one
abbrev pub literal_tokens : Scalar → ℤ → List Token
literal_tokens scalar.Bool (pos n) = cond (n == 0) (codes "false") (codes "true") ∷ []
literal_tokens scalar.Bool (negsuc n) = []
literal_tokens (scalar.Int w) (pos n) = constant_tokens (constant_word (codes "INT") w) n
literal_tokens (scalar.Int w) (negsuc n) = negative_tokens w (suc n)
literal_tokens (scalar.Nat w) (pos n) = constant_tokens (constant_word (codes "UINT") w) n
literal_tokens (scalar.Nat w) (negsuc n) = []
literal_tokens (scalar.Bits w) n = []

-- the sign of a comparison, of `Both` and of `Either`; no other operator has one
abbrev pub operator_sign : Op → Token
operator_sign op.Eq = codes "=="
operator_sign op.Ne = codes "!="
operator_sign op.Lt = codes "<"
operator_sign op.Le = codes "<="
operator_sign op.Gt = codes ">"
operator_sign op.Ge = codes ">="
operator_sign op.And = codes "&&"
operator_sign op.Or = codes "||"
operator_sign _ = []

-- the tokens of a call
abbrev pub call_tokens : List ℕ → List (List Token) → List Token
call_tokens name args = name ∷ codes "(" ∷ (with_commas args ++ codes ")" ∷ [])

-- One level of an expression, with the tokens of each part in its place.
abbrev Spelled : Type 0
Spelled = List Token

-- one step of the fold for each part: its tokens, where those of its own parts are known
abbrev pub arg_spelling : EachIs Spelled CArg-F → Spelled
arg_spelling (CArg-F.Value value) = value
arg_spelling (CArg-F.Address at) = codes "&" ∷ at

-- the tokens of an expression's form
abbrev pub kind_spelling : EachIs Spelled CExprKind-F → Spelled
kind_spelling (CExprKind-F.Literal s n) = literal_tokens s n
kind_spelling (CExprKind-F.Read at) = at
kind_spelling (CExprKind-F.Call call) = call
kind_spelling (CExprKind-F.Not operand) = codes "(" ∷ codes "!" ∷ (operand ++ codes ")" ∷ [])
kind_spelling (CExprKind-F.Two o left right) = codes "(" ∷ (left ++ (operator_sign o ∷ (right ++ codes ")" ∷ [])))

-- the tokens of a call
abbrev pub call_spelling : EachIs Spelled CCall-F → Spelled
call_spelling c = call_tokens c.name c.args

-- the tokens of an expression are those of its form
abbrev pub expr_spelling : EachIs Spelled CExpr-F → Spelled
expr_spelling e = e.what

-- `[` and the function that takes the index
abbrev pub index_front : Bool → List Token
index_front true = codes "[" ∷ codes "bl_ix_s" ∷ codes "(" ∷ []
index_front false = codes "[" ∷ codes "bl_ix_u" ∷ codes "(" ∷ []

-- the tokens of an index with its function, its length and its brackets
abbrev pub index_spelling : EachIs Spelled CIndex-F → Spelled
index_spelling i = index_front i.signed ++ (i.at ++ codes "," ∷ decimal i.length ∷ codes ")" ∷ codes "]" ∷ [])

-- what a place begins with: its name, or `(*`, the name and `)`
abbrev pub root_tokens : Bool → List ℕ → List Token
root_tokens true name = codes "(" ∷ codes "*" ∷ name ∷ codes ")" ∷ []
root_tokens false name = name ∷ []

-- the tokens of a place: its root, then its steps
abbrev pub place_spelling : EachIs Spelled CPlace-F → Spelled
place_spelling p = root_tokens p.through p.name ++ joined p.steps

-- the tokens, or none
abbrev pub if_any : Option (List Token) → List Token
if_any None = []
if_any (Some tokens) = tokens

-- the tokens of a step: a dot, the member, and its index where there is one
abbrev pub step_spelling : EachIs Spelled CStep-F → Spelled
step_spelling s = codes "." ∷ s.member ∷ if_any s.index

-- the tokens of an expression
abbrev pub expr_tokens : CExpr → List Token
expr_tokens = fold-CExpr _ _ _ _ _ _ _ arg_spelling kind_spelling call_spelling expr_spelling index_spelling place_spelling step_spelling

-- the tokens of an expression's form
abbrev pub kind_tokens : CExprKind → List Token
kind_tokens = fold-CExprKind _ _ _ _ _ _ _ arg_spelling kind_spelling call_spelling expr_spelling index_spelling place_spelling step_spelling

-- the tokens of a place
abbrev pub place_tokens : CPlace → List Token
place_tokens = fold-CPlace _ _ _ _ _ _ _ arg_spelling kind_spelling call_spelling expr_spelling index_spelling place_spelling step_spelling

-- the tokens of a step of a place
abbrev pub step_tokens : CStep → List Token
step_tokens = fold-CStep _ _ _ _ _ _ _ arg_spelling kind_spelling call_spelling expr_spelling index_spelling place_spelling step_spelling

-- the tokens of an index
abbrev pub index_tokens : CIndex → List Token
index_tokens = fold-CIndex _ _ _ _ _ _ _ arg_spelling kind_spelling call_spelling expr_spelling index_spelling place_spelling step_spelling

-- the tokens of a call
abbrev pub ccall_tokens : CCall → List Token
ccall_tokens = fold-CCall _ _ _ _ _ _ _ arg_spelling kind_spelling call_spelling expr_spelling index_spelling place_spelling step_spelling

-- the tokens of an argument
abbrev pub arg_tokens : CArg → List Token
arg_tokens = fold-CArg _ _ _ _ _ _ _ arg_spelling kind_spelling call_spelling expr_spelling index_spelling place_spelling step_spelling

-- the parts in braces
abbrev pub braced : List (List Token) → List Token
braced parts = codes "{" ∷ (joined parts ++ codes "}" ∷ [])

-- the tokens of an `else` that may be absent
abbrev pub else_tokens : Option (List (List Token)) → List Token
else_tokens None = []
else_tokens (Some parts) = codes "else" ∷ braced parts

-- the tokens of a returned value that may be absent
abbrev pub result_tokens : Option CExpr → List Token
result_tokens None = []
result_tokens (Some e) = expr_tokens e

-- the tokens of a condition in its parentheses
abbrev pub condition_tokens : CExpr → List Token
condition_tokens e = codes "(" ∷ (expr_tokens e ++ codes ")" ∷ [])

-- a struct of zeros, set to a place
abbrev pub zeros_tokens : List ℕ → List Token
zeros_tokens name = codes "=" ∷ codes "(" ∷ codes "struct" ∷ name ∷ codes ")" ∷ codes "{" ∷ codes "0" ∷ codes "}" ∷ codes ";" ∷ []

-- the tokens of a loop up to its condition, and of the front of its body: its counter is declared and counts each turn
abbrev pub turn_declared : List ℕ → List Token
turn_declared turn = codes "{" ∷ codes "uint32_t" ∷ turn ∷ codes "=" ∷ codes "0" ∷ codes ";" ∷ codes "while" ∷ []

-- the tokens that count a turn of a loop
abbrev pub turn_counted : List ℕ → List Token
turn_counted turn = codes "{" ∷ turn ∷ codes "=" ∷ codes "bl_turn" ∷ codes "(" ∷ turn ∷ codes ")" ∷ codes ";" ∷ []

-- one step of the fold for statements
abbrev pub stmt_kind_spelling : CStmtKind-F Spelled Spelled → Spelled
stmt_kind_spelling (CStmtKind-F.Set at value) = place_tokens at ++ (codes "=" ∷ (expr_tokens value ++ codes ";" ∷ []))
stmt_kind_spelling (CStmtKind-F.Clear at name) = place_tokens at ++ zeros_tokens name
stmt_kind_spelling (CStmtKind-F.Call call) = ccall_tokens call ++ codes ";" ∷ []
stmt_kind_spelling (CStmtKind-F.If test then_part else_part) = codes "if" ∷ (condition_tokens test ++ (braced then_part ++ else_tokens else_part))
stmt_kind_spelling (CStmtKind-F.Loop turn test body) =
    turn_declared turn ++ (condition_tokens test ++ (turn_counted turn ++ (joined body ++ codes "}" ∷ codes "}" ∷ [])))
stmt_kind_spelling CStmtKind-F.Break = codes "break" ∷ codes ";" ∷ []
stmt_kind_spelling (CStmtKind-F.Return value) = codes "return" ∷ (result_tokens value ++ codes ";" ∷ [])

-- the tokens of a statement are those of its form
abbrev pub stmt_spelling : CStmt-F Spelled Spelled → Spelled
stmt_spelling s = s.what

-- the tokens of a statement
abbrev pub stmt_tokens : CStmt → List Token
stmt_tokens = fold-CStmt _ _ stmt_kind_spelling stmt_spelling

-- the tokens of what a statement does
abbrev pub stmt_kind_tokens : CStmtKind → List Token
stmt_kind_tokens = fold-CStmtKind _ _ stmt_kind_spelling stmt_spelling

-- the tokens of the length of an array, where there is one
abbrev pub length_tokens : Option ℕ → List Token
length_tokens None = []
length_tokens (Some n) = codes "[" ∷ decimal n ∷ codes "]" ∷ []

-- the tokens of a member of a struct
abbrev pub member_tokens : CMember → List Token
member_tokens m = type_tokens m.ty ++ (m.name ∷ (length_tokens m.length ++ codes ";" ∷ []))

-- the tokens of a struct
abbrev pub struct_tokens : CStruct → List Token
struct_tokens s = codes "struct" ∷ s.name ∷ (braced (map member_tokens s.members) ++ codes ";" ∷ [])

-- the star of a pointer
abbrev pub star_if : Bool → List Token
star_if true = codes "*" ∷ []
star_if false = []

-- the tokens of a parameter
abbrev pub param_tokens : CParam → List Token
param_tokens p = type_tokens p.ty ++ (star_if p.pointer ++ p.name ∷ [])

-- what a local begins with: `0`, or a struct of zeros
abbrev pub zero_tokens : CType → List Token
zero_tokens (ctype.Scalar s) = codes "0" ∷ []
zero_tokens (ctype.Struct name) = codes "{" ∷ codes "0" ∷ codes "}" ∷ []

-- the tokens of a local variable
abbrev pub local_tokens : CLocal → List Token
local_tokens x = type_tokens x.ty ++ (x.name ∷ codes "=" ∷ (zero_tokens x.ty ++ codes ";" ∷ []))

-- the tokens of the type of what is returned, `void` where nothing is
abbrev pub returned_tokens : Option Scalar → List Token
returned_tokens None = codes "void" ∷ []
returned_tokens (Some s) = scalar_word s ∷ []

-- the word `static`, where it stands
abbrev pub static_if : Bool → List Token
static_if true = codes "static" ∷ []
static_if false = []

-- the tokens of a function up to its parameters, and of the front of its body
abbrev pub func_front : CFunc → List Token
func_front f = static_if f.fixed ++ (returned_tokens f.result ++ (f.name ∷ codes "(" ∷ []))

-- the tokens of a function behind its parameters
abbrev pub func_rest : CFunc → List Token
func_rest f = joined (map local_tokens f.locals) ++ (joined (map stmt_tokens f.body) ++ codes "}" ∷ [])

-- the tokens of a function
abbrev pub func_tokens : CFunc → List Token
func_tokens f = func_front f ++ (with_commas (map param_tokens f.params) ++ (codes ")" ∷ codes "{" ∷ func_rest f))

-- the tokens of a text behind its prelude
abbrev pub tokens_of : List CStruct → List CFunc → List Token
tokens_of structs funcs = joined (map struct_tokens structs) ++ joined (map func_tokens funcs)
