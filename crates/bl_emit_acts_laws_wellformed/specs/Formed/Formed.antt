-- Expressions, places and statements of C in which nothing fails.
use Rattle.std.specs.Prelude.{◌≡◌, Bool, List, [], map, Some}
use Rattle.bl_tree.specs.declared.place.Place.{Place}
use Rattle.bl_tree.specs.declared.c.CExpr.{CExpr}
use Rattle.bl_tree.specs.declared.c.CPlace.{CPlace}
use Rattle.bl_tree.specs.declared.c.CStmt.{CStmt}
use Rattle.bl_tree.specs.declared.c.CType.{CType}
use Rattle.bl_ctext_semantics.specs.Faults.{Context, Judged, JudgedPlace, block_faults, faults_in_stmt, judged_expr, judged_place}

-- what is judged of an expression of a type in which nothing fails
abbrev pub sound : CType → Judged
sound ty = record { ty = Some ty; faults = [] }

-- the judgement of a place of this type in which nothing fails; it begins with what a pointer leads to, or with a variable
abbrev pub sound_place : Bool → CType → JudgedPlace
sound_place through ty = record { ty = Some ty; through = through; faults = [] }

-- an expression is of this C type, and nothing fails in it
abbrev pub ExprIs : Context → CType → CExpr → Type 0
ExprIs context ty e = judged_expr e context ≡ sound ty

-- a place is of this C type, and nothing fails in it wherever it stands
abbrev pub PlaceIs : Context → Bool → CType → CPlace → Type 0
PlaceIs context through ty place = (at : Place) → judged_place place context at ≡ sound_place through ty

-- nothing fails in a statement, in a loop or outside of one
abbrev pub StmtIs : Context → CStmt → Type 0
StmtIs context s = (looped : Bool) → faults_in_stmt s context looped ≡ []

-- nothing fails in the statements of a block, in a loop or outside of one
abbrev pub BlockIs : Context → List CStmt → Type 0
BlockIs context block = (looped : Bool) → block_faults (map faults_in_stmt block) context looped ≡ []
