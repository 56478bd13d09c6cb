-- The places that a C function names: the path of each, the members that it goes through.
use Rattle.std.specs.Prelude.{Bool, List, [], ◌∷◌, ◌++◌, map, Option, Some, None}
use Rattle.bl_tree.specs.declared.text.Text.{Text}
use Rattle.bl_tree.specs.declared.c.CArg.TheOpen.{CArg-F, CExprKind-F, CCall-F, CExpr-F, CIndex-F, CPlace-F, CStep-F}
use Rattle.bl_tree.specs.declared.c.CArg.{CArg, fold-CArg}
use Rattle.bl_tree.specs.declared.c.CStep.{CStep, fold-CStep}
use Rattle.bl_tree.specs.declared.c.CExpr.{CExpr, fold-CExpr}
use Rattle.bl_tree.specs.declared.c.CPlace.{CPlace, fold-CPlace}
use Rattle.bl_tree.specs.declared.c.CCall.{CCall, fold-CCall}
use Rattle.bl_tree.specs.declared.c.CFunc.{CFunc}
use Rattle.bl_tree.specs.declared.c.CStmtKind.TheOpen.{CStmtKind-F, CStmt-F}
use Rattle.bl_tree.specs.declared.c.CStmt.{CStmt, fold-CStmt}
use Rattle.bl_tree.specs.Reduce.{joined}
use Rattle.bl_ctext.specs.Folds.{OpenPart}

-- ---- what is named

-- the path of a place: where it begins and the members that it goes through, without its indices
pub record CPath : Type 0 where
  -- whether the place begins with `(*` and its name is a pointer's
  pub through : Bool
  pub name : Text
  -- the members that the place goes through, in order
  pub members : List Text

-- the paths of places, in the order in which these stand
abbrev pub CPaths : Type 0
CPaths = List CPath

-- the parts of a step of a place: its member, and the places in its index
pub record StepParts : Type 0 where
  pub member : Text
  pub inside : CPaths

-- a part of an expression, with the paths of the places in each part within it
abbrev pub WithPaths : OpenPart → Type 0
WithPaths Of = Of CPaths CPaths CPaths CPaths CPaths CPaths StepParts

-- ---- in one level

-- the places in an argument
abbrev pub arg_places : WithPaths CArg-F → CPaths
arg_places (CArg-F.Value value) = value
arg_places (CArg-F.Address place) = place

-- the places in an expression's form
abbrev pub kind_places : WithPaths CExprKind-F → CPaths
kind_places (CExprKind-F.Literal type n) = []
kind_places (CExprKind-F.Read place) = place
kind_places (CExprKind-F.Call call) = call
kind_places (CExprKind-F.Not operand) = operand
kind_places (CExprKind-F.Two op left right) = left ++ right

-- the places named in the arguments of a call
abbrev pub call_places : WithPaths CCall-F → CPaths
call_places call = joined call.args

-- the places named in an expression, from those of its form
abbrev pub expr_places : WithPaths CExpr-F → CPaths
expr_places expr = expr.what

-- the places named in an index
abbrev pub index_places : WithPaths CIndex-F → CPaths
index_places index = index.at

-- a place, and then those in its indices
abbrev pub place_places : WithPaths CPlace-F → CPaths
place_places place =
    record { through = place.through; name = place.name; members = map (λ (step : StepParts). step.member) place.steps }
    ∷ joined (map (λ (step : StepParts). step.inside) place.steps)

-- the places of a part that may be absent
abbrev pub places_or_none : Option CPaths → CPaths
places_or_none None = []
places_or_none (Some places) = places

-- the parts of a step
abbrev pub step_parts : WithPaths CStep-F → StepParts
step_parts step = record { member = step.member; inside = places_or_none step.index }

-- ---- in all parts

-- the places that are named in an expression
abbrev pub places_in : CExpr → CPaths
places_in = fold-CExpr _ _ _ _ _ _ _ arg_places kind_places call_places expr_places index_places place_places step_parts

-- a place itself, and those in its indices
abbrev pub places_in_place : CPlace → CPaths
places_in_place = fold-CPlace _ _ _ _ _ _ _ arg_places kind_places call_places expr_places index_places place_places step_parts

-- the places named in a call
abbrev pub places_in_call : CCall → CPaths
places_in_call = fold-CCall _ _ _ _ _ _ _ arg_places kind_places call_places expr_places index_places place_places step_parts

-- the places named in an argument
abbrev pub places_in_arg : CArg → CPaths
places_in_arg = fold-CArg _ _ _ _ _ _ _ arg_places kind_places call_places expr_places index_places place_places step_parts

-- the parts of a step of a place
abbrev pub parts_of_step : CStep → StepParts
parts_of_step = fold-CStep _ _ _ _ _ _ _ arg_places kind_places call_places expr_places index_places place_places step_parts

-- the places named in an expression that may be absent
abbrev pub places_of_option : Option CExpr → CPaths
places_of_option None = []
places_of_option (Some expr) = places_in expr

-- ---- in statements

-- the places of a block that may be absent
abbrev pub block_or_none : Option (List CPaths) → CPaths
block_or_none None = []
block_or_none (Some block) = joined block

-- the places named in a statement's form: in what it sets, in what it asks, and in its blocks
abbrev pub stmt_kind_places : CStmtKind-F CPaths CPaths → CPaths
stmt_kind_places (CStmtKind-F.Set place expr) = places_in_place place ++ places_in expr
stmt_kind_places (CStmtKind-F.Clear place struct) = places_in_place place
stmt_kind_places (CStmtKind-F.Call call) = places_in_call call
stmt_kind_places (CStmtKind-F.If condition block other) = places_in condition ++ joined block ++ block_or_none other
stmt_kind_places (CStmtKind-F.Loop turn condition body) = places_in condition ++ joined body
stmt_kind_places CStmtKind-F.Break = []
stmt_kind_places (CStmtKind-F.Return expr) = places_of_option expr

-- the places named in a statement, from those of its form
abbrev pub stmt_places : CStmt-F CPaths CPaths → CPaths
stmt_places stmt = stmt.what

-- the places that are named in a statement
abbrev pub places_in_stmt : CStmt → CPaths
places_in_stmt = fold-CStmt CPaths CPaths stmt_kind_places stmt_places

-- the places named in a block
abbrev pub places_in_block : List CStmt → CPaths
places_in_block stmts = joined (map places_in_stmt stmts)

-- all places that a function names
abbrev pub places_named : CFunc → CPaths
places_named function = places_in_block function.body
