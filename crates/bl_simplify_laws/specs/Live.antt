-- Statements that do the same but for locals that nothing reads any more.
use Rattle.std.specs.Prelude.{◌≡◌, ◌==◌, ℕ, Bool, true, false, List, [], ◌∷◌, ◌++◌, Option, Some, None, if◌then◌else◌}
use Rattle.bl_tree.specs.Reduce.{joined}
use Rattle.bl_tree.specs.declared.text.Text.{Text}
use Rattle.bl_tree.specs.declared.place.Place.{Place}
use Rattle.bl_tree.specs.declared.c.CArg.TheOpen.{CArg-F, CExprKind-F, CCall-F, CExpr-F, CIndex-F, CPlace-F, CStep-F}
use Rattle.bl_tree.specs.declared.c.CCall.{CCall, fold-CCall}
use Rattle.bl_tree.specs.declared.c.CExpr.{CExpr, fold-CExpr}
use Rattle.bl_tree.specs.declared.c.CFunc.{CFunc}
use Rattle.bl_tree.specs.declared.c.CPlace.{CPlace, fold-CPlace}
use Rattle.bl_tree.specs.declared.c.CStmt.{CStmt, fold-CStmt, roll-CStmt}
use Rattle.bl_tree.specs.declared.c.CStmtKind.{roll-CStmtKind}
use Rattle.bl_tree.specs.declared.c.CStmtKind.TheOpen.{CStmtKind-F, CStmt-F}
use Rattle.bl_ctext.specs.Folds.{OpenPart}
use Rattle.bl_ctext_semantics.specs.Meaning.{Scope, block_c}
use Rattle.bl_ctext_semantics.specs.Memory.{Memory, Root, state_object, input_object, output_object, variable}
use Rattle.bl_simplify_laws.specs.declared.facts.CSpot.{CSpot}
use Rattle.bl_simplify_laws.specs.Files.{SameFunction}
use Rattle.bl_simplify_laws.specs.Frames.{SameAt, TableDepends}
use Rattle.bl_simplify_laws.specs.Known.{place_is, told}
use Rattle.bl_simplify_laws.specs.Observed.{PointBelow, Observed, broke, returned, observed, trapped, went_on}
use Rattle.bl_simplify_laws.specs.Splits.{branch, if_stmt}
use Rattle.bl_simplify_laws.specs.Spots.{spot_of_place}
use Rattle.bl_simplify_laws.specs.Steps.{set_stmt}
use Rattle.bl_simplify_laws.specs.Tables.{has_name}
use Rattle.bl_simplify_laws.specs.Written.{loop_stmt}

-- ---- names that are read

-- a place: its name, and the names that are read in its indices
pub record PlaceReads : Type 0 where
  pub name : Text
  pub inside : List Text

-- a layer with the names that are read in each part, where a place's own name stands apart
abbrev pub Reads : OpenPart → Type 0
Reads Of = Of (List Text) (List Text) (List Text) (List Text) (List Text) PlaceReads (List Text)

-- all names of a place
abbrev pub names_of_place : PlaceReads → List Text
names_of_place place = place.name ∷ place.inside

-- the names in an argument, also that of a place whose address it passes on
abbrev pub arg_reads : Reads CArg-F → List Text
arg_reads (CArg-F.Value value) = value
arg_reads (CArg-F.Address place) = names_of_place place

-- the names in an expression's form
abbrev pub kind_reads : Reads CExprKind-F → List Text
kind_reads (CExprKind-F.Literal type n) = []
kind_reads (CExprKind-F.Read place) = names_of_place place
kind_reads (CExprKind-F.Call call) = call
kind_reads (CExprKind-F.Not operand) = operand
kind_reads (CExprKind-F.Two op left right) = left ++ right

-- the names in the arguments of a call
abbrev pub call_reads : Reads CCall-F → List Text
call_reads call = joined call.args

-- the names in an expression
abbrev pub expr_reads : Reads CExpr-F → List Text
expr_reads expr = expr.what

-- the names in an index
abbrev pub index_reads : Reads CIndex-F → List Text
index_reads index = index.at

-- a place's own name, and those in its indices
abbrev pub place_reads : Reads CPlace-F → PlaceReads
place_reads place = record { name = place.name; inside = joined place.steps }

-- the names in an index that may be absent
abbrev pub reads_or_none : Option (List Text) → List Text
reads_or_none None = []
reads_or_none (Some names) = names

-- the names in the index of a step
abbrev pub step_reads : Reads CStep-F → List Text
step_reads step = reads_or_none step.index

-- the names of all places in an expression
abbrev pub read_in_expr : CExpr → List Text
read_in_expr = fold-CExpr _ _ _ _ _ _ _ arg_reads kind_reads call_reads expr_reads index_reads place_reads step_reads

-- a place's own name, and those of all places in its indices
abbrev pub read_in_place : CPlace → PlaceReads
read_in_place = fold-CPlace _ _ _ _ _ _ _ arg_reads kind_reads call_reads expr_reads index_reads place_reads step_reads

-- the names of all places in a call
abbrev pub read_in_call : CCall → List Text
read_in_call = fold-CCall _ _ _ _ _ _ _ arg_reads kind_reads call_reads expr_reads index_reads place_reads step_reads

-- the names in an expression that may be absent
abbrev pub read_if_there : Option CExpr → List Text
read_if_there None = []
read_if_there (Some e) = read_in_expr e

-- the names that a block reads that may be absent
abbrev pub block_or_none_reads : Option (List (List Text)) → List Text
block_or_none_reads None = []
block_or_none_reads (Some block) = joined block

-- the names that a statement's form reads: all but those of places that it sets
abbrev pub stmt_kind_reads : CStmtKind-F (List Text) (List Text) → List Text
stmt_kind_reads (CStmtKind-F.Set place e) = (read_in_place place).inside ++ read_in_expr e
stmt_kind_reads (CStmtKind-F.Clear place struct) = (read_in_place place).inside
stmt_kind_reads (CStmtKind-F.Call call) = read_in_call call
stmt_kind_reads (CStmtKind-F.If condition block other) = read_in_expr condition ++ (joined block ++ block_or_none_reads other)
stmt_kind_reads (CStmtKind-F.Loop turn condition body) = read_in_expr condition ++ joined body
stmt_kind_reads CStmtKind-F.Break = []
stmt_kind_reads (CStmtKind-F.Return e) = read_if_there e

-- a statement reads what its form does
abbrev pub stmt_reads : CStmt-F (List Text) (List Text) → List Text
stmt_reads stmt = stmt.what

-- the names that a statement reads: those of all places in it but those that it sets
abbrev pub read_by : CStmt → List Text
read_by = fold-CStmt (List Text) (List Text) stmt_kind_reads stmt_reads

-- the variable of a name, where it is a whole one
abbrev pub whole_variable : Bool → Text → Option Text → List Text
whole_variable false name None = name ∷ []
whole_variable false name (Some m) = []
whole_variable true name first = []

-- the variable that a place is, if it is a whole one
abbrev pub whole_name : Option CSpot → List Text
whole_name None = []
whole_name (Some spot) = whole_variable spot.through spot.name spot.first

-- ---- memories and outcomes

-- the roots that count at a depth: all but variables of the running function that aren't live
abbrev pub live_at : ℕ → List Text → Root → Bool
live_at depth live state_object = true
live_at depth live input_object = true
live_at depth live output_object = true
live_at depth live (variable d name) = if depth == d then has_name live name else true

-- two outcomes end alike, with the same memories at the roots that count after such an end
abbrev pub SameSeenAt : (Root → Bool) → (Root → Bool) → (Root → Bool) → Observed Memory → Observed Memory → Type 0
SameSeenAt after breaking gone trapped trapped = Unit {0}
SameSeenAt after breaking gone (went_on m) (went_on n) = SameAt after m n
SameSeenAt after breaking gone (broke m) (broke n) = SameAt breaking m n
SameSeenAt after breaking gone (returned a m) (returned b n) = (a ≡ b) × SameAt gone m n
SameSeenAt after breaking gone _ _ = ⊥

-- two blocks do the same but for locals that aren't live: those before them, those where they go on, and those where they break
pub record SameLive (before : List Text) (one other : List CStmt) (after breaking : List Text) : Type 0 where
  pub same : (scope : Scope) → TableDepends scope.known → PointBelow scope.depth scope.pointers → (m n : Memory) →
      SameAt (live_at scope.depth before) m n →
      SameSeenAt (live_at scope.depth after) (live_at scope.depth breaking) (live_at scope.depth []) (observed (block_c one scope m))
      (observed (block_c other scope n))

-- each name of the first list is one of the second
abbrev pub NamesWithin : List Text → List Text → Type 0
NamesWithin names others = (name : Text) → has_name names name ≡ true → has_name others name ≡ true

-- ---- rules

-- no statement for none
abbrev pub LiveEmpty : Type 0
LiveEmpty = (live breaking : List Text) → SameLive live [] [] live breaking

-- two blocks and what follows them
abbrev pub LiveBlocks : Type 0
LiveBlocks =
    (before middle after breaking : List Text) (a b c d : List CStmt) → SameLive before a b middle breaking → SameLive middle c d after breaking →
    SameLive before (a ++ c) (b ++ d) after breaking

-- more may be live before, and less after
abbrev pub LiveWeaker : Type 0
LiveWeaker =
    (before more after fewer breaking broken : List Text) (one other : List CStmt) → NamesWithin before more → NamesWithin fewer after →
    NamesWithin broken breaking →
    SameLive before one other after breaking → SameLive more one other fewer broken

-- each statement does the same as itself where what it reads is live before it, and so is what is live after it or where it breaks
abbrev pub LiveItself : Type 0
LiveItself =
    (before after breaking : List Text) (s : CStmt) → NamesWithin (read_by s) before → NamesWithin after before → NamesWithin breaking before →
    SameLive before (s ∷ []) (s ∷ []) after breaking

-- an assignment does the same as itself where what it reads is live before it, and what is live after it was or is the variable that it sets
abbrev pub LiveSet : Type 0
LiveSet =
    (before after breaking : List Text) (at : Place) (place : CPlace) (e : CExpr) → NamesWithin ((read_in_place place).inside ++ read_in_expr e) before →
    NamesWithin after (whole_name (place_is place).spot ++ before) → SameLive before (set_stmt at place e ∷ []) (set_stmt at place e ∷ []) after breaking

-- nothing for an assignment to a local that isn't live, if its place and its expression surely have values
abbrev pub LiveDead : Type 0
LiveDead =
    (live breaking : List Text) (at : Place) (place : CPlace) (e : CExpr) → (spot_of_place place).through ≡ false →
    has_name live (spot_of_place place).name ≡ false → (place_is place).steady ≡ true → (told e).total ≡ true →
    SameLive live (set_stmt at place e ∷ []) [] live breaking

-- the statement that clears a struct
abbrev pub clear_stmt : Place → CPlace → Text → CStmt
clear_stmt at place struct = roll-CStmt (record { place = at; what = roll-CStmtKind (CStmtKind-F.Clear place struct) })

-- nothing for the clearing of a local that isn't live, if its place surely has a location
abbrev pub LiveCleared : Type 0
LiveCleared =
    (live breaking : List Text) (at : Place) (place : CPlace) (struct : Text) → (spot_of_place place).through ≡ false →
    has_name live (spot_of_place place).name ≡ false → (place_is place).steady ≡ true → SameLive live (clear_stmt at place struct ∷ []) [] live breaking

-- an `if` with new branches
abbrev pub LiveIf : Type 0
LiveIf =
    (before after breaking : List Text) (at to : Place) (condition : CExpr) (block new : List CStmt) (other others : Option (List CStmt)) →
    NamesWithin (read_in_expr condition) before → SameLive before block new after breaking → SameLive before (branch other) (branch others) after breaking →
    SameLive before (if_stmt at condition block other ∷ []) (if_stmt to condition new others ∷ []) after breaking

-- what both branches come to, for an `if` whose condition surely has a value
abbrev pub LiveEither : Type 0
LiveEither =
    (before after breaking : List Text) (at : Place) (condition : CExpr) (block new : List CStmt) (other : Option (List CStmt)) →
    (told condition).total ≡ true → SameLive before block new after breaking → SameLive before (branch other) new after breaking →
    SameLive before (if_stmt at condition block other ∷ []) new after breaking

-- a loop with a new body, where the same names are live before each turn
abbrev pub LiveLoop : Type 0
LiveLoop =
    (turns after breaking : List Text) (at to : Place) (turn turned : Text) (condition : CExpr) (body new : List CStmt) →
    NamesWithin (read_in_expr condition) turns → NamesWithin after turns → SameLive turns body new turns after →
    SameLive turns (loop_stmt at turn condition body ∷ []) (loop_stmt to turned condition new ∷ []) after breaking

-- a function with another body that does the same but for its locals does the same
abbrev pub LiveFunction : Type 0
LiveFunction =
    (framed : List Text) (f g : CFunc) (before after breaking : List Text) → f.params ≡ g.params → SameLive before f.body g.body after breaking →
    SameFunction framed f g
