-- Functions that do the same where they are called as they may be, and files whose calls are so.
use Rattle.std.specs.Prelude.{◌≡◌, ℕ, Bool, true, false, not, ◌&&◌, ◌||◌, List, [], ◌∷◌, map, Option, Some, None, bytes_eq}
use Rattle.std.specs.List.{list_all, list_any}
use Rattle.bl_tree.specs.declared.text.Text.{Text}
use Rattle.bl_tree.specs.declared.c.CArg.TheOpen.{CArg-F, CExprKind-F, CCall-F, CExpr-F, CIndex-F, CPlace-F, CStep-F}
use Rattle.bl_tree.specs.declared.c.CCall.{CCall, fold-CCall}
use Rattle.bl_tree.specs.declared.c.CExpr.{CExpr, fold-CExpr}
use Rattle.bl_tree.specs.declared.c.CFunc.{CFunc}
use Rattle.bl_tree.specs.declared.c.CParam.{CParam}
use Rattle.bl_tree.specs.declared.c.CPlace.{CPlace, fold-CPlace}
use Rattle.bl_tree.specs.declared.c.CStmt.{CStmt, fold-CStmt}
use Rattle.bl_tree.specs.declared.c.CStmtKind.TheOpen.{CStmtKind-F, CStmt-F}
use Rattle.bl_ctext.specs.Folds.{OpenPart}
use Rattle.bl_ctext_semantics.specs.Meaning.{ArgumentValue, by_address, by_value, Meaning, block_c, function_c}
use Rattle.bl_ctext_semantics.specs.Memory.{Location, Memory}
use Rattle.bl_ctext_semantics.specs.Tables.{Table}
use Rattle.bl_simplify_laws.specs.declared.facts.CSpot.{CSpot}
use Rattle.bl_simplify_laws.specs.Observed.{SameOutcome, PassedBelow, PointBelow, seen_call}
use Rattle.bl_simplify_laws.specs.Spots.{OwnApart, are_apart, first_of, is_own, spots_apart}

-- ---- names

-- whether a list has this name
abbrev pub has_name : List Text → Text → Bool
has_name names name = list_any (λ n. bytes_eq n name) names

-- ---- calls of functions that take a frame

-- no further argument is a pointer to something in common with this location
abbrev pub ApartFrom : Location → List ArgumentValue → Type 0
ApartFrom own [] = Unit {0}
ApartFrom own (by_value value ∷ rest) = ApartFrom own rest
ApartFrom own (by_address place ∷ rest) = (are_apart own place ≡ true) × ApartFrom own rest

-- the first argument is a pointer, and has nothing in common with where further ones lead
abbrev pub FirstApart : List ArgumentValue → Type 0
FirstApart [] = ⊥
FirstApart (by_value value ∷ rest) = ⊥
FirstApart (by_address own ∷ rest) = ApartFrom own rest

-- how a function may be called: pointers lead to what is there before the call, and the first one apart from the others
-- where the function is one of those that take a frame first
pub record Fine (framed : List Text) (name : Text) (depth : ℕ) (passed : List ArgumentValue) : Type 0 where
  pub below : PassedBelow depth passed
  pub apart : has_name framed name ≡ true → FirstApart passed

-- the calls of two functions of this name that may be made do the same
abbrev pub CallsAlike : List Text → Text → Meaning → Meaning → Type 0
CallsAlike framed name one other =
    (depth : ℕ) (passed : List ArgumentValue) (memory : Memory) → Fine framed name depth passed →
    seen_call (one depth passed memory) ≡ seen_call (other depth passed memory)

-- two functions of this name that may be known do the same
abbrev pub KnownAlike : List Text → Text → Option Meaning → Option Meaning → Type 0
KnownAlike framed name None None = Unit {0}
KnownAlike framed name (Some one) (Some other) = CallsAlike framed name one other
KnownAlike framed name None (Some other) = ⊥
KnownAlike framed name (Some one) None = ⊥

-- two tables know functions that do the same under every name
abbrev pub TablesAlike : List Text → Table Meaning → Table Meaning → Type 0
TablesAlike framed one other = (name : Text) → KnownAlike framed name (one name) (other name)

-- ---- whether all calls in a file may be made

-- an argument: the spot after `&`, and whether all calls in it may be made
pub record ArgStands : Type 0 where
  pub lent : Option CSpot
  pub stands : Bool

-- a place: its spot, and whether all calls in its indices may be made
pub record PlaceStands : Type 0 where
  pub spot : CSpot
  pub stands : Bool

-- a step: its member, and whether all calls in its index may be made
pub record StepStands : Type 0 where
  pub member : Text
  pub stands : Bool

-- a layer with what is asked of each part
abbrev pub Stands : OpenPart → Type 0
Stands Of = Of ArgStands Bool Bool Bool Bool PlaceStands StepStands

-- an argument passes its spot on
abbrev pub arg_stands : Stands CArg-F → ArgStands
arg_stands (CArg-F.Value value) = record { lent = None; stands = value }
arg_stands (CArg-F.Address place) = record { lent = Some place.spot; stands = place.stands }

-- whether all calls in an expression's form may be made
abbrev pub kind_stands : Stands CExprKind-F → Bool
kind_stands (CExprKind-F.Literal type n) = true
kind_stands (CExprKind-F.Read place) = place.stands
kind_stands (CExprKind-F.Call call) = call
kind_stands (CExprKind-F.Not operand) = operand
kind_stands (CExprKind-F.Two op left right) = left && right

-- whether a spot has surely nothing in common with what an argument passes on
abbrev pub apart_from_lent : CSpot → Option CSpot → Bool
apart_from_lent own None = true
apart_from_lent own (Some spot) = spots_apart own spot

-- whether a call passes the address of a spot first, and further ones of spots apart from it
abbrev pub own_lent : Option CSpot → List ArgStands → Bool
own_lent None rest = false
own_lent (Some own) rest = list_all (λ a. apart_from_lent own a.lent) rest

-- whether the first argument is a pointer that leads apart from further ones
abbrev pub first_apart : List ArgStands → Bool
first_apart [] = false
first_apart (a ∷ rest) = own_lent a.lent rest

-- whether a call, and each in its arguments, may be made
abbrev pub call_stands : List Text → Stands CCall-F → Bool
call_stands framed call = list_all (λ a. a.stands) call.args && (not (has_name framed call.name) || first_apart call.args)

-- whether all calls in an expression may be made
abbrev pub expr_stands : Stands CExpr-F → Bool
expr_stands expr = expr.what

-- whether all calls in an index may be made
abbrev pub index_stands : Stands CIndex-F → Bool
index_stands index = index.at

-- whether all calls in an index that may be absent may be made
abbrev pub stands_or_none : Option Bool → Bool
stands_or_none None = true
stands_or_none (Some b) = b

-- a place lies in its spot
abbrev pub place_stands : Stands CPlace-F → PlaceStands
place_stands place = record {
  spot = record { through = place.through; name = place.name; first = first_of (map (λ s. s.member) place.steps) };
  stands = list_all (λ s. s.stands) place.steps;
}

-- a step leads to its member
abbrev pub step_stands : Stands CStep-F → StepStands
step_stands step = record { member = step.member; stands = stands_or_none step.index }

-- whether all calls in an expression may be made, where functions of these names take a frame first
abbrev pub calls_stand_in_expr : List Text → CExpr → Bool
calls_stand_in_expr framed = fold-CExpr _ _ _ _ _ _ _ arg_stands kind_stands (call_stands framed) expr_stands index_stands place_stands step_stands

-- a place with its spot, and whether all calls in its indices may be made
abbrev pub calls_stand_in_place : List Text → CPlace → PlaceStands
calls_stand_in_place framed = fold-CPlace _ _ _ _ _ _ _ arg_stands kind_stands (call_stands framed) expr_stands index_stands place_stands step_stands

-- whether a call, and each in its arguments, may be made
abbrev pub calls_stand_in_call : List Text → CCall → Bool
calls_stand_in_call framed = fold-CCall _ _ _ _ _ _ _ arg_stands kind_stands (call_stands framed) expr_stands index_stands place_stands step_stands

-- whether all calls in an expression that may be absent may be made
abbrev pub stands_if_there : List Text → Option CExpr → Bool
stands_if_there framed None = true
stands_if_there framed (Some e) = calls_stand_in_expr framed e

-- whether all statements of a block that may be absent stand
abbrev pub block_or_none_stands : Option (List Bool) → Bool
block_or_none_stands None = true
block_or_none_stands (Some block) = list_all (λ b. b) block

-- whether all calls in a statement's form may be made
abbrev pub stmt_kind_stands : List Text → CStmtKind-F Bool Bool → Bool
stmt_kind_stands framed (CStmtKind-F.Set place e) = (calls_stand_in_place framed place).stands && calls_stand_in_expr framed e
stmt_kind_stands framed (CStmtKind-F.Clear place struct) = (calls_stand_in_place framed place).stands
stmt_kind_stands framed (CStmtKind-F.Call call) = calls_stand_in_call framed call
stmt_kind_stands framed (CStmtKind-F.If condition block other) =
    calls_stand_in_expr framed condition && (list_all (λ b. b) block && block_or_none_stands other)
stmt_kind_stands framed (CStmtKind-F.Loop turn condition body) = calls_stand_in_expr framed condition && list_all (λ b. b) body
stmt_kind_stands framed CStmtKind-F.Break = true
stmt_kind_stands framed (CStmtKind-F.Return e) = stands_if_there framed e

-- whether all calls in a statement may be made
abbrev pub stmt_stands : CStmt-F Bool Bool → Bool
stmt_stands stmt = stmt.what

-- whether all calls in a statement may be made, where functions of these names take a frame first
abbrev pub calls_stand_in : List Text → CStmt → Bool
calls_stand_in framed = fold-CStmt Bool Bool (stmt_kind_stands framed) stmt_stands

-- whether a function's first parameter alone may have an own pointer's name, and has it only where the function takes a frame first
abbrev pub owns_first : List Text → Text → List CParam → Bool
owns_first framed name [] = true
owns_first framed name (p ∷ params) = (has_name framed name || not (is_own p.name)) && list_all (λ q. not (is_own q.name)) params

-- whether pointers with own pointers' names are its own in each call of a function that may be made
abbrev pub owns : List Text → CFunc → Bool
owns framed function = owns_first framed function.name function.params

-- whether a function's own pointers are its own, and all calls in it may be made
abbrev pub function_stands : List Text → CFunc → Bool
function_stands framed function = owns framed function && list_all (calls_stand_in framed) function.body

-- ---- laws

-- a block whose calls may be made does the same over two tables that know the same
abbrev pub TablesDecideBlocks : Type 0
TablesDecideBlocks =
    (framed : List Text) (one other : Table Meaning) → TablesAlike framed one other → (block : List CStmt) → list_all (calls_stand_in framed) block ≡ true →
    (depth : ℕ) (pointers : Table Location) → PointBelow depth pointers → OwnApart pointers → (memory : Memory) →
    SameOutcome (block_c block (record { known = one; depth = depth; pointers = pointers }) memory)
    (block_c block (record { known = other; depth = depth; pointers = pointers }) memory)

-- a function whose calls may be made does the same over two tables that know the same
abbrev pub TablesDecide : Type 0
TablesDecide =
    (framed : List Text) (one other : Table Meaning) → TablesAlike framed one other → (function : CFunc) → function_stands framed function ≡ true →
    CallsAlike framed function.name (function_c one function) (function_c other function)
