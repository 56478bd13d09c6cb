-- The value of an expression.
use Rattle.std.specs.Prelude.{ℕ, ℤ, Bool, false, not, ◌&&◌, List, [], ◌∷◌, slice_get, Option, Some, None, option_map, option_and_then, if◌then◌else◌}
use Rattle.bl_tree.specs.declared.scalar.Op.{Op}
use Rattle.bl_tree.specs.declared.scalar.Op.TheVariants.{And, Or}
use Rattle.bl_tree.specs.declared.scalar.Scalar.{Scalar as ScalarType}
use Rattle.bl_tree.specs.declared.tree.Expr.{Expr, fold-Expr}
use Rattle.bl_tree.specs.declared.tree.ExprKind.TheOpen.{ExprKind-F, Part-F, Path-F, Expr-F}
use Rattle.bl_tree.specs.declared.tree.Path.{Path, fold-Path}
use Rattle.bl_tree.specs.declared.tree.StructDef.{StructDef}
use Rattle.bl_tree.specs.declared.tree.Ty.{Ty}
use Rattle.bl_tree.specs.declared.tree.Var.{Var}
use Rattle.bl_tree.specs.declared.value.Value.{Value, out-Value}
use Rattle.bl_tree.specs.declared.value.Value.TheOpen.{Value-F}
use Rattle.bl_tree.specs.declared.value.Value.TheVariants.{Number}
use Rattle.bl_tree.specs.Numbers.{checked_of, checked_one_of, is_one, takes_one, takes_two, type_of_result}
use Rattle.bl_tree.specs.Scalar.{in_range}
use Rattle.bl_tree.specs.Types.{scalar_in}
use Rattle.bl_eval.specs.declared.datum.Datum.{Datum}
use Rattle.bl_eval.specs.declared.datum.Datum.TheVariants.{Scalar as OfScalar, Whole}
use Rattle.bl_eval.specs.declared.datum.Left.{Left}
use Rattle.bl_eval.specs.declared.datum.Operand.{Operand}
use Rattle.bl_eval.specs.Values.{position_of, value_at}

-- the values of a unit's variables: those of this moment, and those at the end of the previous tick
pub record View : Type 0 where
  pub now : List Value
  pub before : List Value

-- the meaning of a function: from the values of inputs and outputs at the call to what it leaves, none where it traps
abbrev pub Callee : Type 0
Callee = List Value → Option Left

-- what an expression sees: the structs, the variables of its unit, and the functions before it
pub record Scope : Type 0 where
  pub structs : List StructDef
  pub vars : List Var
  pub callees : List Callee

-- what an expression gives, from the values of the variables; none where it traps
abbrev pub Meaning : Type 0
Meaning = View → Option Datum

-- the meaning of a path: its variable, its type, and its positions, none where an index traps or is negative
pub record PathMeaning : Type 0 where
  pub root : ℕ
  pub ty : Ty
  pub positions : View → Option (List ℕ)

-- ---- data

-- the value of a datum, without its type
abbrev pub plain : Datum → Value
plain (OfScalar ty n) = Number n
plain (Whole value) = value

-- the number of a datum, with its type; none where the datum has parts
abbrev pub operand_in : Datum → Option Operand
operand_in (OfScalar ty n) = Some (record { ty = ty; n = n })
operand_in (Whole value) = None

-- a value whose outermost level is known: a number has the type, and one with parts is whole
abbrev pub level_datum : ScalarType → Value → Value-F Value → Datum
level_datum ty value (Value-F.Number n) = OfScalar ty n
level_datum ty value (Value-F.Parts all) = Whole value

-- a value, which is one of the type where that is without parts
abbrev pub datum_of : Option ScalarType → Value → Datum
datum_of (Some ty) value = level_datum ty value (out-Value value)
datum_of None value = Whole value

-- ---- operators

-- the number that an expression gives, with its type
abbrev pub operand : Meaning → View → Option Operand
operand e view = option_and_then operand_in (e view)

-- the result of a unary operator at numbers of a type that it takes, none where it traps
abbrev pub applied_one : Op → Operand → Option ℤ
applied_one op a = if takes_one op a.ty && in_range a.ty a.n then checked_one_of op a.ty a.n else None

-- the result of a binary operator at numbers of a type that it takes, none where it traps
abbrev pub applied_two : Op → Operand → ℤ → Option ℤ
applied_two op a n = if takes_two op a.ty && (in_range a.ty a.n && in_range a.ty n) then checked_of op a.ty a.n n else None

-- whether the left operand alone decides: false does for `and`, true for `or`. It is the value then
abbrev pub decides : Op → ℤ → Bool
decides And a = not (is_one a)
decides Or a = is_one a
decides _ a = false

-- what an operator gives for an operand, with its type; none where it traps
abbrev pub one_datum : Op → Operand → Option Datum
one_datum op a = option_map (OfScalar (type_of_result op a.ty)) (applied_one op a)

-- the result of a binary operator for two operands, with its type; none where it traps
abbrev pub two_data : Op → Operand → Operand → Option Datum
two_data op a b = option_map (OfScalar (type_of_result op a.ty)) (applied_two op a b.n)

-- the right operand is looked at only where the left does not decide
abbrev pub two_datum : Op → Option Operand → Operand → Option Datum
two_datum op b a = if decides op a.n then Some (OfScalar a.ty a.n) else option_and_then (two_data op a) b

-- the number cast to the target type, none where it is out of range
abbrev pub cast_datum : ScalarType → Operand → Option Datum
cast_datum target a = if in_range target a.n then Some (OfScalar target a.n) else None

-- ---- calls

-- the values of all of them; none where one traps
abbrev pub values_of : List Meaning → View → Option (List Value)
values_of [] view = Some []
values_of (e ∷ rest) view = option_and_then (λ datum. option_map (λ values. plain datum ∷ values) (values_of rest view)) (e view)

-- what a call gives for the inputs; none where an input or the function traps, or the function has no result
abbrev pub call_datum : Option (List Value) → Callee → Option Datum
call_datum inputs callee = option_and_then (λ values. option_and_then (λ left. left.result) (callee values)) inputs

-- ---- paths

-- the position that a part of a path stands for
abbrev pub PathPosition : Type 0
PathPosition = View → Option ℕ

-- the positions of all parts; none where one traps
abbrev pub positions_of : List PathPosition → View → Option (List ℕ)
positions_of [] view = Some []
positions_of (part ∷ rest) view = option_and_then (λ k. option_map (λ ks. k ∷ ks) (positions_of rest view)) (part view)

-- what lies at the positions in a variable
abbrev pub read_at : ℕ → List Value → List ℕ → Option Value
read_at root now positions = option_and_then (value_at positions) (slice_get now root)

-- the meaning of a path as an expression: the value that it leads to
abbrev pub reading : PathMeaning → Meaning
reading path view = option_map (datum_of (scalar_in path.ty)) (option_and_then (read_at path.root view.now) (path.positions view))

-- ---- all expressions

-- the scalar type of a variable; none where it has an aggregate
abbrev pub scalar_of : Option Var → Option ScalarType
scalar_of var = option_and_then (λ var. scalar_in var.ty) var

-- what a kind of expression means, from what its parts mean
abbrev pub kind_means : Scope → ExprKind-F Meaning PathPosition Meaning PathMeaning → Meaning
kind_means scope (ExprKind-F.Literal n s) view = Some (OfScalar s n)
kind_means scope (ExprKind-F.Read path) view = reading path view
kind_means scope (ExprKind-F.Prev k) view = option_map (datum_of (scalar_of (slice_get scope.vars k))) (slice_get view.before k)
kind_means scope (ExprKind-F.One op a) view = option_and_then (one_datum op) (operand a view)
kind_means scope (ExprKind-F.Two op a b) view = option_and_then (two_datum op (operand b view)) (operand a view)
kind_means scope (ExprKind-F.Cast target a) view = option_and_then (cast_datum target) (operand a view)
kind_means scope (ExprKind-F.Call f inputs) view = option_and_then (call_datum (values_of inputs view)) (slice_get scope.callees f)

-- the position that an index of this number stands for
abbrev pub position_in : Operand → Option ℕ
position_in a = position_of a.n

-- what a part of a path means: a field's position, or that of an index
abbrev pub part_means : Part-F Meaning PathPosition Meaning PathMeaning → PathPosition
part_means (Part-F.Field k) view = Some k
part_means (Part-F.Index e) view = option_and_then position_in (operand e view)

-- an expression means what its kind means
abbrev pub expr_means : Expr-F Meaning PathPosition Meaning PathMeaning → Meaning
expr_means e = e.what

-- a path means its variable, its type and the positions of its parts
abbrev pub path_means : Path-F Meaning PathPosition Meaning PathMeaning → PathMeaning
path_means path = record { root = path.root; ty = path.ty; positions = positions_of path.parts }

-- what an expression means in a scope
abbrev pub meaning_of : Scope → Expr → Meaning
meaning_of scope = fold-Expr Meaning PathPosition Meaning PathMeaning (kind_means scope) part_means expr_means path_means

-- what a path means in a scope
abbrev pub path_meaning_of : Scope → Path → PathMeaning
path_meaning_of scope = fold-Path Meaning PathPosition Meaning PathMeaning (kind_means scope) part_means expr_means path_means

-- the value of an expression; none where it traps
abbrev pub value_in : Scope → Expr → View → Option Value
value_in scope e view = option_map plain (meaning_of scope e view)
