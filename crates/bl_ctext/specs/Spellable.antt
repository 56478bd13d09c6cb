-- Which trees of the C subset have a spelling: what the type of a file keeps.
use Rattle.std.specs.Prelude.{ℕ, ◌+◌, ◌-◌, ◌*◌, max, nat_lt, nat_le, ℤ, pos, negsuc, Bool, true, false, ◌&&◌, ◌||◌, ◌==◌, cond, List, [], ◌∷◌, map}
use Rattle.std.specs.Prelude.{Option, Some, None}
use Rattle.bl_tree.specs.declared.scalar.Scalar.{Scalar}
use Rattle.bl_tree.specs.declared.scalar.Scalar.TheVariants as scalar
use Rattle.bl_tree.specs.declared.scalar.Op.{Op}
use Rattle.bl_tree.specs.declared.scalar.Op.TheVariants as op
use Rattle.bl_tree.specs.declared.c.CType.{CType}
use Rattle.bl_tree.specs.declared.c.CType.TheVariants as ctype
use Rattle.bl_tree.specs.declared.c.CMember.{CMember}
use Rattle.bl_tree.specs.declared.c.CStruct.{CStruct}
use Rattle.bl_tree.specs.declared.c.CParam.{CParam}
use Rattle.bl_tree.specs.declared.c.CLocal.{CLocal}
use Rattle.bl_tree.specs.declared.c.CFunc.{CFunc}
use Rattle.bl_tree.specs.declared.c.CPlace.{CPlace, CPlace-F, fold-CPlace}
use Rattle.bl_tree.specs.declared.c.CStep.{CStep, CStep-F, fold-CStep}
use Rattle.bl_tree.specs.declared.c.CIndex.{CIndex, CIndex-F, fold-CIndex}
use Rattle.bl_tree.specs.declared.c.CExpr.{CExpr, CExpr-F, fold-CExpr}
use Rattle.bl_tree.specs.declared.c.CExprKind.{CExprKind, CExprKind-F, fold-CExprKind}
use Rattle.bl_tree.specs.declared.c.CCall.{CCall, CCall-F, fold-CCall}
use Rattle.bl_tree.specs.declared.c.CArg.{CArg, CArg-F, fold-CArg}
use Rattle.bl_tree.specs.declared.c.CStmt.{CStmt, CStmt-F, fold-CStmt}
use Rattle.bl_tree.specs.declared.c.CStmtKind.{CStmtKind, CStmtKind-F, fold-CStmtKind}
use Rattle.bl_tree.specs.Reduce.{all_of}
use Rattle.bl_ctext.specs.Token.{Token}
use Rattle.bl_ctext.specs.Folds.{EachIs}
use Rattle.bl_ctext.specs.Names.{is_name, is_struct_name, is_function_name, is_callee, is_turn_name}
use Rattle.bl_ctext.specs.Spelling.{negatives, tokens_of}

-- whether C has the type: any but bits
abbrev pub is_c_scalar : Scalar → Bool
is_c_scalar (scalar.Bits w) = false
is_c_scalar _ = true

-- whether the number is in the range of the type; no number is one of a bits type
abbrev pub is_literal : Scalar → ℤ → Bool
is_literal scalar.Bool (pos n) = nat_lt n 2
is_literal scalar.Bool (negsuc n) = false
is_literal (scalar.Int w) (pos n) = nat_lt n (negatives w)
is_literal (scalar.Int w) (negsuc n) = nat_lt n (negatives w)
is_literal (scalar.Nat w) (pos n) = nat_lt n (2 * negatives w)
is_literal (scalar.Nat w) (negsuc n) = false
is_literal (scalar.Bits w) n = false

-- a comparison, `Both` or `Either`
abbrev pub is_c_operator : Op → Bool
is_c_operator op.Eq = true
is_c_operator op.Ne = true
is_c_operator op.Lt = true
is_c_operator op.Le = true
is_c_operator op.Gt = true
is_c_operator op.Ge = true
is_c_operator op.And = true
is_c_operator op.Or = true
is_c_operator _ = false

-- how many elements an array may have
abbrev pub is_length : ℕ → Bool
is_length n = nat_le 1 n && nat_le n 65536

-- whether what may be absent passes where it is there
abbrev pub none_or : Option Bool → Bool
none_or None = true
none_or (Some answer) = answer

-- whether the list holds something
abbrev pub has_any : {A : Type 0} → List A → Bool
has_any [] = false
has_any (x ∷ xs) = true

-- one step of the fold for each part: what is asked of it, where its own parts are asked already
abbrev pub is_arg : EachIs Bool CArg-F → Bool
is_arg (CArg-F.Value value) = value
is_arg (CArg-F.Address at) = at

-- an expression's form: literals are in the range of their types, and operators are some of the subset's
abbrev pub is_expr_kind : EachIs Bool CExprKind-F → Bool
is_expr_kind (CExprKind-F.Literal s n) = is_literal s n
is_expr_kind (CExprKind-F.Read at) = at
is_expr_kind (CExprKind-F.Call call) = call
is_expr_kind (CExprKind-F.Not operand) = operand
is_expr_kind (CExprKind-F.Two o left right) = is_c_operator o && (left && right)

-- whether a call has a spelling: its name is a function's, and each argument has one
abbrev pub is_call : EachIs Bool CCall-F → Bool
is_call c = is_callee c.name && all_of c.args

-- whether an expression has a spelling: its form has one
abbrev pub is_expr : EachIs Bool CExpr-F → Bool
is_expr e = e.what

-- whether an index has a spelling: its expression has one, and its length is an array's
abbrev pub is_index : EachIs Bool CIndex-F → Bool
is_index i = i.at && is_length i.length

-- whether a place has a spelling: its name is one, and each step has one
abbrev pub is_place : EachIs Bool CPlace-F → Bool
is_place p = is_name p.name && all_of p.steps

-- a step: the member's name is one, and the index has a spelling where there is one
abbrev pub is_step : EachIs Bool CStep-F → Bool
is_step s = is_name s.member && none_or s.index

-- whether the names, literals, operators and lengths of an expression and its parts have a spelling
abbrev pub spells_expr : CExpr → Bool
spells_expr = fold-CExpr _ _ _ _ _ _ _ is_arg is_expr_kind is_call is_expr is_index is_place is_step

-- whether the names, literals, operators and lengths of an expression's form have a spelling
abbrev pub spells_kind : CExprKind → Bool
spells_kind = fold-CExprKind _ _ _ _ _ _ _ is_arg is_expr_kind is_call is_expr is_index is_place is_step

-- whether the names, literals, operators and lengths of a place have a spelling
abbrev pub spells_place : CPlace → Bool
spells_place = fold-CPlace _ _ _ _ _ _ _ is_arg is_expr_kind is_call is_expr is_index is_place is_step

-- whether the member and the index of a step of a place have a spelling
abbrev pub spells_step : CStep → Bool
spells_step = fold-CStep _ _ _ _ _ _ _ is_arg is_expr_kind is_call is_expr is_index is_place is_step

-- whether an index has a spelling
abbrev pub spells_index : CIndex → Bool
spells_index = fold-CIndex _ _ _ _ _ _ _ is_arg is_expr_kind is_call is_expr is_index is_place is_step

-- whether the names, literals, operators and lengths of a call have a spelling
abbrev pub spells_call : CCall → Bool
spells_call = fold-CCall _ _ _ _ _ _ _ is_arg is_expr_kind is_call is_expr is_index is_place is_step

-- whether the names, literals, operators and lengths of an argument have a spelling
abbrev pub spells_arg : CArg → Bool
spells_arg = fold-CArg _ _ _ _ _ _ _ is_arg is_expr_kind is_call is_expr is_index is_place is_step

-- a returned value that is there
abbrev pub spells_result : Option CExpr → Bool
spells_result None = true
spells_result (Some e) = spells_expr e

-- whether each part of an optional block has a spelling
abbrev pub all_if_any : Option (List Bool) → Bool
all_if_any None = true
all_if_any (Some answers) = all_of answers

-- one step of the fold for statements
abbrev pub is_stmt_kind : CStmtKind-F Bool Bool → Bool
is_stmt_kind (CStmtKind-F.Set at value) = spells_place at && spells_expr value
is_stmt_kind (CStmtKind-F.Clear at name) = spells_place at && is_struct_name name
is_stmt_kind (CStmtKind-F.Call call) = spells_call call
is_stmt_kind (CStmtKind-F.If test then_part else_part) = spells_expr test && (all_of then_part && all_if_any else_part)
is_stmt_kind (CStmtKind-F.Loop turn test body) = is_turn_name turn && (spells_expr test && all_of body)
is_stmt_kind CStmtKind-F.Break = true
is_stmt_kind (CStmtKind-F.Return value) = spells_result value

-- a statement has a spelling where its form has one
abbrev pub is_stmt : CStmt-F Bool Bool → Bool
is_stmt s = s.what

-- whether a statement has a spelling
abbrev pub spells_stmt : CStmt → Bool
spells_stmt = fold-CStmt _ _ is_stmt_kind is_stmt

-- whether what a statement does has a spelling
abbrev pub spells_stmt_kind : CStmtKind → Bool
spells_stmt_kind = fold-CStmtKind _ _ is_stmt_kind is_stmt

-- whether a type has a spelling: the name of a struct is one
abbrev pub spells_type : CType → Bool
spells_type (ctype.Scalar s) = is_c_scalar s
spells_type (ctype.Struct name) = is_struct_name name

-- whether the length of an array has a spelling, where there is one
abbrev pub spells_length : Option ℕ → Bool
spells_length None = true
spells_length (Some n) = is_length n

-- whether a member of a struct has a spelling
abbrev pub spells_member : CMember → Bool
spells_member m = spells_type m.ty && (is_name m.name && spells_length m.length)

-- whether a struct has a spelling: its name is one, it has a member, and all members have spellings
abbrev pub spells_struct : CStruct → Bool
spells_struct s = is_struct_name s.name && (has_any s.members && all_of (map spells_member s.members))

-- whether a parameter has a spelling
abbrev pub spells_param : CParam → Bool
spells_param p = spells_type p.ty && is_name p.name

-- whether a local variable has a spelling
abbrev pub spells_local : CLocal → Bool
spells_local x = spells_type x.ty && is_name x.name

-- whether the type of what is returned has a spelling, where there is one
abbrev pub spells_returned : Option Scalar → Bool
spells_returned None = true
spells_returned (Some s) = is_c_scalar s

-- whether a function has a spelling
abbrev pub spells_func : CFunc → Bool
spells_func f =
    spells_returned f.result && (is_function_name f.name &&
    (all_of (map spells_param f.params) && (all_of (map spells_local f.locals) && all_of (map spells_stmt f.body))))

-- whether the token is `(`, `[` or `{`
abbrev pub is_opening : Token → Bool
is_opening (b ∷ []) = b == 40 || b == 91 || b == 123
is_opening _ = false

-- whether the token is `)`, `]` or `}`
abbrev pub is_closing : Token → Bool
is_closing (b ∷ []) = b == 41 || b == 93 || b == 125
is_closing _ = false

-- how many brackets are open behind the token, where so many are before it
abbrev pub open_behind : ℕ → Token → ℕ
open_behind n token = cond (is_opening token) (n + 1) (cond (is_closing token) (n - 1) n)

-- the most brackets that are open at once, where so many are already
abbrev pub most_open : ℕ → List Token → ℕ
most_open n [] = n
most_open n (token ∷ tokens) = max n (most_open (open_behind n token) tokens)

-- whether at most 2,000 brackets are open at once
abbrev pub shallow : List CStruct → List CFunc → Bool
shallow structs funcs = nat_le (most_open 0 (tokens_of structs funcs)) 2000

-- whether a text of these structs and functions has a spelling. There are a struct and a function, each struct has a member, all parts have spellings, and at
-- most 2,000 brackets are open at once
abbrev pub is_spellable : List CStruct → List CFunc → Bool
is_spellable structs funcs =
    has_any structs && (has_any funcs && (all_of (map spells_struct structs) && (all_of (map spells_func funcs) &&
    shallow structs funcs)))
