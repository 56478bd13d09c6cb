-- Open expressions: those that are made of numbers alone, and take the type that is wanted of them.
use Rattle.std.specs.Prelude.{ℤ, Bool, true, false, List, [], ◌++◌, Option, Some, None, if◌then◌else◌}
use Rattle.bl_tree.specs.declared.place.Place.{Place}
use Rattle.bl_tree.specs.declared.rule.Failure.{Failure}
use Rattle.bl_tree.specs.declared.rule.Rule.TheVariants as rule
use Rattle.bl_tree.specs.declared.scalar.Op.{Op}
use Rattle.bl_tree.specs.declared.scalar.Op.TheVariants.{Add, Sub, Mul, Div, Rem, BitAnd, BitOr, BitXor, Shl, Shr, Minus, BitNot, And, Or, Not}
use Rattle.bl_tree.specs.declared.scalar.Scalar.{Scalar as ScalarType}
use Rattle.bl_tree.specs.declared.scalar.Scalar.TheVariants.{Int}
use Rattle.bl_tree.specs.declared.scalar.Width.TheVariants.{W32}
use Rattle.bl_tree.specs.declared.tree.Expr.{Expr, fold-Expr, out-Expr, roll-Expr}
use Rattle.bl_tree.specs.declared.tree.ExprKind.TheOpen.{ExprKind-F, Part-F, Path-F, Expr-F}
use Rattle.bl_tree.specs.declared.tree.ExprKind.TheVariants as what
use Rattle.bl_tree.specs.declared.tree.Ty.{Ty}
use Rattle.bl_tree.specs.Numbers.{takes_one, takes_two}
use Rattle.bl_tree.specs.Scalar.{in_range, is_whole}
use Rattle.bl_tree.specs.Types.{scalar_in}
use Rattle.bl_types.specs.Failures.{fails_at, unless}

-- what an operator of two open operands gives is open: arithmetic, bits and shifts
abbrev pub keeps_two_open : Op → Bool
keeps_two_open Add = true
keeps_two_open Sub = true
keeps_two_open Mul = true
keeps_two_open Div = true
keeps_two_open Rem = true
keeps_two_open BitAnd = true
keeps_two_open BitOr = true
keeps_two_open BitXor = true
keeps_two_open Shl = true
keeps_two_open Shr = true
keeps_two_open _ = false

-- what an operator of one open operand gives is open
abbrev pub keeps_one_open : Op → Bool
keeps_one_open Minus = true
keeps_one_open BitNot = true
keeps_one_open _ = false

-- the operator takes operands of type bool alone
abbrev pub is_logical : Op → Bool
is_logical And = true
is_logical Or = true
is_logical Not = true
is_logical _ = false

-- the type where none is wanted
abbrev pub int32 : ScalarType
int32 = Int W32

-- an expression in its place: the tree that is made of it, where it has a type that fits, and what fails
pub record Settled : Type 0 where
  pub made : Option Expr
  pub failures : List Failure

-- the tree of a number at a place, of this type
abbrev pub literal : Place → ℤ → ScalarType → Expr
literal at n s = roll-Expr (record { place = at; what = what.Literal n s })

-- the tree of an operator at a place, with its operand
abbrev pub one : Place → Op → Expr → Expr
one at op a = roll-Expr (record { place = at; what = what.One op a })

-- the tree of an operator at a place, with its two operands
abbrev pub two : Place → Op → Expr → Expr → Expr
two at op a b = roll-Expr (record { place = at; what = what.Two op a b })

-- an expression that has its type already
abbrev pub kept : Expr → Settled
kept e = record { made = Some e; failures = [] }

-- an expression without a typed form and without failures
abbrev pub nothing : Settled
nothing = record { made = None; failures = [] }

-- Type: an expression at this place doesn't fit
abbrev pub unfit : Place → Settled
unfit at = record { made = None; failures = fails_at rule.Type at }

-- ---- an open expression as one of a type

-- Type: the operator doesn't take the type that its operands take; at the form
abbrev pub one_made : ScalarType → Place → Op → Option Expr → Settled
one_made s at op (Some a) = if takes_one op s then kept (one at op a) else unfit at
one_made s at op None = nothing

-- a binary form with its typed operands; rule Type fails at it where the operator doesn't take their type
abbrev pub two_made : ScalarType → Place → Op → Option Expr → Option Expr → Settled
two_made s at op (Some a) (Some b) = if takes_two op s then kept (two at op a b) else unfit at
two_made s at op _ _ = nothing

-- what fails earlier, and then what is given
abbrev pub behind : List Failure → Settled → Settled
behind earlier settled = record { made = settled.made; failures = earlier ++ settled.failures }

-- Literal: a number isn't in the range of its type; at the number, with its minus
abbrev pub settled_kind : ScalarType → ExprKind-F (Place → Settled) (Unit {0}) Settled (Unit {0}) → Place → Settled
settled_kind s (ExprKind-F.Literal n t) at = record { made = Some (literal at n s); failures = unless (in_range s n) rule.Literal at }
settled_kind s (ExprKind-F.One op a) at = behind a.failures (one_made s at op a.made)
settled_kind s (ExprKind-F.Two op a b) at = behind a.failures (behind b.failures (two_made s at op a.made b.made))
settled_kind s _ at = nothing

-- nothing is asked of a part: no open expression has one
abbrev pub settled_part : Part-F (Place → Settled) (Unit {0}) Settled (Unit {0}) → Unit {0}
settled_part part = tt

-- an expression, from what its kind comes to at its place
abbrev pub settled_layer : Expr-F (Place → Settled) (Unit {0}) Settled (Unit {0}) → Settled
settled_layer e = e.what e.place

-- nothing is asked of a path: no open expression has one
abbrev pub settled_path : Path-F (Place → Settled) (Unit {0}) Settled (Unit {0}) → Unit {0}
settled_path path = tt

-- an open expression, of which this whole-number type is wanted
abbrev pub settled : ScalarType → Expr → Settled
settled s = fold-Expr (Place → Settled) (Unit {0}) Settled (Unit {0}) (settled_kind s) settled_part settled_layer settled_path

-- ---- an open expression where some type is wanted

-- an open expression, of which this type is wanted where the test is true; else it doesn't fit
abbrev pub settled_if : Bool → ScalarType → Expr → Settled
settled_if true s e = settled s e
settled_if false s e = unfit (out-Expr e).place

-- Type: a bool or an aggregate is wanted of an open expression; at itself. None stands for an aggregate
abbrev pub given_scalar : Option ScalarType → Expr → Settled
given_scalar (Some s) e = settled_if (is_whole s) s e
given_scalar None e = unfit (out-Expr e).place

-- an open expression where this type is wanted of it
abbrev pub given : Ty → Expr → Settled
given ty e = given_scalar (scalar_in ty) e
