-- The numbers that constants stand for.
use Rattle.std.specs.Prelude.{ℤ, pos, Bool, true, false, not, ◌&&◌, is_none, List, [], Option, Some, None, option_and_then, if◌then◌else◌}
use Rattle.bl_tree.specs.declared.rule.Failure.{Failure}
use Rattle.bl_tree.specs.declared.rule.Rule.TheVariants as rule
use Rattle.bl_tree.specs.declared.tree.Expr.{Expr}
use Rattle.bl_names_tree.specs.declared.expr.NamedExpr.{NamedExpr, fold-NamedExpr, out-NamedExpr}
use Rattle.bl_names_tree.specs.declared.expr.NamedExprKind.TheOpen.{NamedExprKind-F, NamedPart-F, NamedExpr-F, NamedTarget-F}
use Rattle.bl_names_tree.specs.declared.expr.NamedTarget.{NamedTarget, fold-NamedTarget}
use Rattle.bl_names_tree.specs.declared.expr.Root.{Root}
use Rattle.bl_names_tree.specs.declared.expr.Root.TheVariants as root
use Rattle.bl_eval.specs.declared.datum.Operand.{Operand}
use Rattle.bl_eval.specs.Meaning.{Scope, View, meaning_of, operand}
use Rattle.bl_types.specs.declared.fold.Number.{Number}
use Rattle.bl_types.specs.Failures.{unless}

-- ---- what a constant's value is made of

-- whether a kind of expression is constant, from whether its operands are
abbrev pub constant_kind : NamedExprKind-F Bool (Unit {0}) Bool Bool → Bool
constant_kind (NamedExprKind-F.Number minus n) = true
constant_kind (NamedExprKind-F.Truth truth) = true
constant_kind (NamedExprKind-F.Read target) = target
constant_kind (NamedExprKind-F.One op a) = a
constant_kind (NamedExprKind-F.Two op a b) = a && b
constant_kind (NamedExprKind-F.Cast target a) = a
constant_kind _ = false

-- nothing is asked of a part: a target with one is not constant
abbrev pub constant_part : NamedPart-F Bool (Unit {0}) Bool Bool → Unit {0}
constant_part part = tt

-- an expression is constant where its kind is
abbrev pub constant_layer : NamedExpr-F Bool (Unit {0}) Bool Bool → Bool
constant_layer e = e.what

-- whether a root without parts is a constant
abbrev pub whole_constant : Root → List (Unit {0}) → Bool
whole_constant (root.Constant k) [] = true
whole_constant _ _ = false

-- a target is constant where it is a constant without a part
abbrev pub constant_target : NamedTarget-F Bool (Unit {0}) Bool Bool → Bool
constant_target target = whole_constant target.root target.parts

-- whether an expression is made of literals, constants, operators and casts alone, whatever its type, and also where it has none
abbrev pub is_constant : NamedExpr → Bool
is_constant = fold-NamedExpr Bool (Unit {0}) Bool Bool constant_kind constant_part constant_layer constant_target

-- whether a target is a constant and no part of one
abbrev pub constant_target_of : NamedTarget → Bool
constant_target_of = fold-NamedTarget Bool (Unit {0}) Bool Bool constant_kind constant_part constant_layer constant_target

-- ---- the number that it stands for

-- where there are no variables and no functions
abbrev pub nowhere : Scope
nowhere = record { structs = []; vars = []; callees = [] }

-- the values where there are no variables
abbrev pub no_values : View
no_values = record { now = []; before = [] }

-- the number that an expression gives there, with its type; none where it traps
abbrev pub number_in : Expr → Option Operand
number_in e = operand (meaning_of nowhere e) no_values

-- a number with its type, as an operator takes it
abbrev pub as_operand : Number → Operand
as_operand a = record { ty = a.ty; n = a.n }

-- the number of a constant expression by its typed form; none where it isn't constant, has no type, or traps
abbrev pub folded : NamedExpr → Option Expr → Option Operand
folded e value = if is_constant e then option_and_then number_in value else None

-- the number, and zero where there is none
abbrev pub number_or_zero : Option Operand → ℤ
number_or_zero (Some a) = a.n
number_or_zero None = pos 0

-- whether a value traps; one without a type doesn't
abbrev pub traps : Option Expr → Bool
traps (Some e) = is_none (number_in e)
traps None = false

-- Constant: a constant's value isn't made of literals, constants, operators and casts alone, or it traps; at the value
abbrev pub not_constant : NamedExpr → Option Expr → List Failure
not_constant e value = unless (is_constant e && not (traps value)) rule.Constant (out-NamedExpr e).place
