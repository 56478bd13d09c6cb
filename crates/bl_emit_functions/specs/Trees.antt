-- Parts of C texts that only functions have. What is made has no place in a text.
use Rattle.std.specs.Prelude.{ℕ, pos, Bool, true, false, List, [], ◌++◌, Option, Some, codes}
use Rattle.std.specs.Fmt.{decimal}
use Rattle.bl_tree.specs.declared.text.Text.{Text}
use Rattle.bl_tree.specs.declared.c.CExpr.{CExpr}
use Rattle.bl_tree.specs.declared.c.CPlace.{CPlace}
use Rattle.bl_tree.specs.declared.c.CStmt.{CStmt}
use Rattle.bl_tree.specs.declared.c.CStmtKind.TheVariants as statement
use Rattle.bl_tree.specs.declared.scalar.Scalar.{Scalar}
use Rattle.bl_tree.specs.declared.scalar.Scalar.TheVariants.{Bool as OfBool}
use Rattle.bl_emit_acts.specs.Acts.{c_stmt}
use Rattle.bl_emit_acts.specs.Trees.{c_literal, c_place}

-- the name of what counts the turns of a loop
abbrev pub turn_name : ℕ → Text
turn_name k = codes "t" ++ decimal k

-- the name of the flag that tells whether no arm of an `if` was taken
abbrev pub flag_name : ℕ → Text
flag_name k = codes "q" ++ decimal k

-- the place of a flag that tells whether no arm of an `if` was taken
abbrev pub flag_place : ℕ → CPlace
flag_place k = c_place false (flag_name k) []

-- `true` or `false`
abbrev pub c_truth : Bool → CExpr
c_truth true = c_literal OfBool (pos 1)
c_truth false = c_literal OfBool (pos 0)

-- an `if`, whose `else` may be absent
abbrev pub c_if : CExpr → List CStmt → Option (List CStmt) → CStmt
c_if test block other = c_stmt (statement.If test block other)

-- a loop, by the name of what counts its turns
abbrev pub c_loop : Text → CExpr → List CStmt → CStmt
c_loop turn test body = c_stmt (statement.Loop turn test body)

-- `break`
abbrev pub c_break : CStmt
c_break = c_stmt statement.Break

-- `return`, with the value of an expression or without one
abbrev pub c_return : Option CExpr → CStmt
c_return value = c_stmt (statement.Return value)

-- a return of 0 or false
abbrev pub c_return_zero : Scalar → CStmt
c_return_zero s = c_return (Some (c_literal s (pos 0)))
