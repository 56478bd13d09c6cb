-- Parts of C texts. What is made has no place in a text.
use Rattle.std.specs.Prelude.{ℕ, ℤ, Bool, List, Some, None}
use Rattle.bl_tree.specs.declared.text.Text.{Text}
use Rattle.bl_tree.specs.declared.place.Place.{Place}
use Rattle.bl_tree.specs.declared.scalar.Op.{Op}
use Rattle.bl_tree.specs.declared.scalar.Scalar.{Scalar}
use Rattle.bl_tree.specs.declared.c.CArg.{CArg}
use Rattle.bl_tree.specs.declared.c.CCall.{CCall, roll-CCall}
use Rattle.bl_tree.specs.declared.c.CIndex.{CIndex, roll-CIndex}
use Rattle.bl_tree.specs.declared.c.CStep.{CStep, roll-CStep}
use Rattle.bl_tree.specs.declared.c.CPlace.{CPlace, roll-CPlace}
use Rattle.bl_tree.specs.declared.c.CExpr.{CExpr, roll-CExpr}
use Rattle.bl_tree.specs.declared.c.CExprKind.{CExprKind}
use Rattle.bl_tree.specs.declared.c.CExprKind.TheVariants as expression

-- the place of all that stands in no text
abbrev pub nowhere : Place
nowhere = record { start = 0; end = 0 }

-- an expression without a place
abbrev pub c_expr : CExprKind → CExpr
c_expr what = roll-CExpr (record { place = nowhere; what = what })

-- a member that is no array
abbrev pub c_step : Text → CStep
c_step member = roll-CStep (record { member = member; index = None })

-- an index by `bl_ix_s` (true) or `bl_ix_u` into an array of this length
abbrev pub c_index : Bool → CExpr → ℕ → CIndex
c_index signed at length = roll-CIndex (record { signed = signed; at = at; length = length })

-- an element of a member that is an array
abbrev pub c_element : Text → CIndex → CStep
c_element member index = roll-CStep (record { member = member; index = Some index })

-- the place to which the steps lead, from a variable (false) or from what a pointer leads to (true)
abbrev pub c_place : Bool → Text → List CStep → CPlace
c_place through name steps = roll-CPlace (record { through = through; name = name; steps = steps })

-- a number of a type
abbrev pub c_literal : Scalar → ℤ → CExpr
c_literal ty n = c_expr (expression.Literal ty n)

-- what stands at a place
abbrev pub c_read : CPlace → CExpr
c_read place = c_expr (expression.Read place)

-- `!` of a bool
abbrev pub c_not : CExpr → CExpr
c_not operand = c_expr (expression.Not operand)

-- a comparison, `&&` or `||`
abbrev pub c_two : Op → CExpr → CExpr → CExpr
c_two op left right = c_expr (expression.Two op left right)

-- a call of the function of a name
abbrev pub c_call : Text → List CArg → CCall
c_call name args = roll-CCall (record { name = name; args = args })

-- the value of a call
abbrev pub c_called : Text → List CArg → CExpr
c_called name args = c_expr (expression.Call (c_call name args))
