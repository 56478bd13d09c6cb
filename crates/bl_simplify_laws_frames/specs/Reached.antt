-- Frames of activities: what their counters can be wherever a function is called with one of them.
use Rattle.std.specs.Prelude.{◌≡◌, ℕ, ℤ, pos, Bool, true, false, not, ◌&&◌, ◌||◌, List, [], ◌∷◌, ◌++◌, map, All, Contains, Option, Some, None}
use Rattle.std.specs.Prelude.{bytes_eq, codes, int_le, is_none, is_some, option_and_then, unwrap_or, if◌then◌else◌}
use Rattle.std.specs.List.{list_all, list_any}
use Rattle.std.specs.Ordering.{int_eq}
use Rattle.bl_tree.specs.declared.text.Text.{Text}
use Rattle.bl_tree.specs.declared.c.CArg.TheOpen.{CArg-F, CExprKind-F, CCall-F, CExpr-F, CIndex-F, CPlace-F, CStep-F}
use Rattle.bl_tree.specs.declared.c.CCall.{CCall, fold-CCall}
use Rattle.bl_tree.specs.declared.c.CExpr.{CExpr, fold-CExpr}
use Rattle.bl_tree.specs.declared.c.CFunc.{CFunc}
use Rattle.bl_tree.specs.declared.c.CMember.{CMember}
use Rattle.bl_tree.specs.declared.c.CParam.{CParam}
use Rattle.bl_tree.specs.declared.c.CPlace.{CPlace, fold-CPlace}
use Rattle.bl_tree.specs.declared.c.CStmt.{CStmt, fold-CStmt}
use Rattle.bl_tree.specs.declared.c.CStmtKind.TheOpen.{CStmtKind-F, CStmt-F}
use Rattle.bl_tree.specs.declared.c.CStruct.{CStruct}
use Rattle.bl_tree.specs.declared.c.CType.{CType}
use Rattle.bl_tree.specs.declared.c.CType.TheVariants.{Scalar as OfScalar, Struct as OfStruct}
use Rattle.bl_ctext.specs.Folds.{OpenPart}
use Rattle.bl_ctext_semantics.specs.Course.{End, goes_on, breaks, returns, traps}
use Rattle.bl_ctext_semantics.specs.Faults.{WellFormed, struct_table}
use Rattle.bl_ctext_semantics.specs.Meaning.{ArgumentValue, by_address, by_value, Meaning, Scope, block_c, function_c, further}
use Rattle.bl_ctext_semantics.specs.Memory.{Location, Memory, Projection, member}
use Rattle.bl_ctext_semantics.specs.Tables.{Table, no_entries}
use Rattle.bl_ctext_semantics.specs.Trace.{c_trace}
use Rattle.bl_simplify_laws.specs.declared.facts.CSpot.{CSpot}
use Rattle.bl_simplify_laws.specs.declared.facts.Fact.{Fact}
use Rattle.bl_simplify_laws.specs.declared.facts.Fact.TheVariants.{AtLeast, AtMost, Is, Number}
use Rattle.bl_simplify_laws.specs.Files.{SameFunction}
use Rattle.bl_simplify_laws.specs.Frames.{TableKeeps}
use Rattle.bl_simplify_laws.specs.Known.{Holds, Valuation, spot_told}
use Rattle.bl_simplify_laws.specs.Observed.{PointBelow, SameOutcome, seen_call}
use Rattle.bl_simplify_laws.specs.Rules.{AfterBlock, AlikeWhere, Facts, zero_names}
use Rattle.bl_simplify_laws.specs.Spots.{OwnApart, is_own, lent_in, same_spot, spot_location, spot_of_place, spots_apart}
use Rattle.bl_simplify_laws.specs.Tables.{Fine, block_or_none_stands, calls_stand_in, function_stands, has_name, owns, stands_or_none, stmt_stands}

-- ---- frames

-- what is told of a function that takes a frame first: the name of its pointer to the frame, the frame's struct, the members that are
-- frames within it, each with the function that is called with it, and facts of its other members of which one holds in each call
pub record Frame : Type 0 where
  pub name : Text
  pub pointer : Text
  pub struct : Text
  pub parts : List (Text × Text)
  pub reached : List Valuation

-- the first of some frames that is a function's
abbrev pub first_frame : Text → List Frame → Option Frame
first_frame name [] = None
first_frame name (frame ∷ frames) = if bytes_eq frame.name name then Some frame else first_frame name frames

-- the names of functions that take a frame first
abbrev pub framed_names : List Frame → List Text
framed_names frames = map (λ frame. frame.name) frames

-- a frame of which nothing is told
abbrev pub no_frame : Text → Frame
no_frame name = record { name = name; pointer = codes "f"; struct = []; parts = []; reached = [] ∷ [] }

-- what is told of a function's frame, nothing where it takes none
abbrev pub frame_for : List Frame → Text → Frame
frame_for frames name = unwrap_or (first_frame name frames) (no_frame name)

-- the spot of a member of a function's frame
abbrev pub frame_spot : Frame → Text → CSpot
frame_spot frame m = record { through = true; name = frame.pointer; first = Some m }

-- the spot of a function's whole frame
abbrev pub whole_frame : Frame → CSpot
whole_frame frame = record { through = true; name = frame.pointer; first = None }

-- ---- what holds in frames

-- a function's frame with the frames within it, at any depth: the way from the one to the other, and the function of that
pub data Within (frames : List Frame) : Text → List Projection → Text → Type 0 where
  itself : (name : Text) → Within frames name [] name
  inside : (name m inner last : Text) (way : List Projection) → Contains (frame_for frames name).parts (m, inner) → Within frames inner way last →
      Within frames name (member m ∷ way) last

-- a scope in which each pointer leads to a location
abbrev pub at_location : Location → Scope
at_location place = record { known = no_entries; depth = 0; pointers = λ name. Some place }

-- one of a frame's facts holds of what stands at a location
abbrev pub HoldsAt : Location → List Valuation → Memory → Type 0
HoldsAt place facts memory = Holds facts (at_location place) memory

-- one of the facts of a function's frame holds at a location, and likewise of each frame within it
pub record FrameHolds (frames : List Frame) (name : Text) (place : Location) (memory : Memory) : Type 0 where
  pub each : (way : List Projection) (inner : Text) → Within frames name way inner → HoldsAt (further place way) (frame_for frames inner).reached memory

-- a call of a function that takes a frame first gets one of which its facts hold
abbrev pub PassesFrame : List Frame → Text → List ArgumentValue → Memory → Type 0
PassesFrame frames name [] memory = Unit {0}
PassesFrame frames name (by_value value ∷ rest) memory = Unit {0}
PassesFrame frames name (by_address place ∷ rest) memory = FrameHolds frames name place memory

-- in each frame within a running function's own one, one of its facts holds
abbrev pub PartsHold : List Frame → Frame → Scope → Memory → Type 0
PartsHold frames frame scope memory =
    (m inner : Text) → Contains frame.parts (m, inner) → FrameHolds frames inner (spot_location scope (frame_spot frame m)) memory

-- ---- whether frames are as they have to be

-- whether a fact holds of 0
abbrev pub holds_of_zero : Fact → Bool
holds_of_zero (Is n) = int_eq n (pos 0)
holds_of_zero (Number n) = int_eq n (pos 0)
holds_of_zero (AtMost n) = int_le (pos 0) n
holds_of_zero (AtLeast n) = int_le n (pos 0)

-- whether a fact is one of a number alone
abbrev pub is_of_number : Fact → Bool
is_of_number (Is n) = false
is_of_number _ = true

-- the type of a member that is no array
abbrev pub single_type : Option CMember → Option CType
single_type None = None
single_type (Some m) = if is_none m.length then Some m.ty else None

-- the type of a struct's member that is no array
abbrev pub member_type : List CStruct → Text → Text → Option CType
member_type structs struct name = single_type (option_and_then (λ members. members name) (struct_table structs struct))

-- whether a type is a scalar
abbrev pub is_scalar_type : Option CType → Bool
is_scalar_type (Some (OfScalar kind)) = true
is_scalar_type _ = false

-- whether a type is the struct of this name
abbrev pub is_struct_type : Text → Option CType → Bool
is_struct_type struct (Some (OfStruct name)) = bytes_eq name struct
is_struct_type struct _ = false

-- whether the first member is a scalar of a struct
abbrev pub leads_to_scalar : List CStruct → Text → Option Text → Bool
leads_to_scalar structs struct None = false
leads_to_scalar structs struct (Some m) = is_scalar_type (member_type structs struct m)

-- whether an entry is of a number of a frame's scalar
abbrev pub entry_fits : List CStruct → Frame → CSpot × Fact → Bool
entry_fits structs frame entry =
    entry.0.through
    && (bytes_eq entry.0.name frame.pointer && (leads_to_scalar structs frame.struct entry.0.first && is_of_number entry.1))

-- whether a frame is as it has to be: its facts are of numbers of its scalars, one of them holds where all is 0, and its parts are its
-- members, frames of their functions
abbrev pub frame_fits : List CStruct → List Frame → Frame → Bool
frame_fits structs frames frame =
    is_own frame.pointer
    && (list_all (list_all (entry_fits structs frame)) frame.reached
    && (list_any (list_all (λ entry. holds_of_zero entry.1)) frame.reached
    && list_all (λ part. is_struct_type (frame_for frames part.1).struct (member_type structs frame.struct part.0)) frame.parts))

-- ---- whether functions leave frames as they have to be

-- an argument: the spot whose address it is, where that is told, and whether no function that takes a frame is called in it
pub record ArgFrames : Type 0 where
  pub exact : Option CSpot
  pub plain : Bool

-- a call: its name, the spots whose addresses its arguments are, and whether no function that takes a frame is called in these
pub record CallFrames : Type 0 where
  pub name : Text
  pub exact : List (Option CSpot)
  pub plain : Bool

-- a step: its member, where it has no index, and whether no function that takes a frame is called in that
pub record StepFrames : Type 0 where
  pub member : Option Text
  pub plain : Bool

-- a layer with what is asked of each part
abbrev pub AsksFrames : OpenPart → Type 0
AsksFrames Of = Of ArgFrames Bool CallFrames Bool Bool ArgFrames StepFrames

-- an argument that is an address is that of its place
abbrev pub arg_frames : AsksFrames CArg-F → ArgFrames
arg_frames (CArg-F.Value value) = record { exact = None; plain = value }
arg_frames (CArg-F.Address place) = place

-- whether no function that takes a frame is called in an expression's form
abbrev pub kind_frames : List Text → AsksFrames CExprKind-F → Bool
kind_frames names (CExprKind-F.Literal type n) = true
kind_frames names (CExprKind-F.Read place) = place.plain
kind_frames names (CExprKind-F.Call call) = call.plain && not (has_name names call.name)
kind_frames names (CExprKind-F.Not operand) = operand
kind_frames names (CExprKind-F.Two op left right) = left && right

-- a call has its name and its arguments
abbrev pub call_frames : AsksFrames CCall-F → CallFrames
call_frames call = record { name = call.name; exact = map (λ a. a.exact) call.args; plain = list_all (λ a. a.plain) call.args }

-- whether no function that takes a frame is called in an expression
abbrev pub expr_frames : AsksFrames CExpr-F → Bool
expr_frames expr = expr.what

-- whether no function that takes a frame is called in an index
abbrev pub index_frames : AsksFrames CIndex-F → Bool
index_frames index = index.at

-- a place of at most one step without an index is a spot
abbrev pub place_frames : AsksFrames CPlace-F → ArgFrames
place_frames place = record {
  exact = spot_told place.through place.name (map (λ s. s.member) place.steps);
  plain = list_all (λ s. s.plain) place.steps;
}

-- the member of a step without an index
abbrev pub member_if_plain : Text → Option Bool → Option Text
member_if_plain name None = Some name
member_if_plain name (Some index) = None

-- a step leads to its member
abbrev pub step_frames : AsksFrames CStep-F → StepFrames
step_frames step = record { member = member_if_plain step.member step.index; plain = stands_or_none step.index }

-- whether no function of these names is called in an expression
abbrev pub is_plain_expr : List Text → CExpr → Bool
is_plain_expr names = fold-CExpr _ _ _ _ _ _ _ arg_frames (kind_frames names) call_frames expr_frames index_frames place_frames step_frames

-- a place: its spot, where that is told, and whether no function of these names is called in its indices
abbrev pub plain_place : List Text → CPlace → ArgFrames
plain_place names = fold-CPlace _ _ _ _ _ _ _ arg_frames (kind_frames names) call_frames expr_frames index_frames place_frames step_frames

-- a call: its name, the spots whose addresses its arguments are, and whether no function of these names is called in these
abbrev pub plain_call : List Text → CCall → CallFrames
plain_call names = fold-CCall _ _ _ _ _ _ _ arg_frames (kind_frames names) call_frames expr_frames index_frames place_frames step_frames

-- whether a spot is told, and is this one or the whole of a frame
abbrev pub covers : Frame → Option CSpot → CSpot → Bool
covers frame None spot = false
covers frame (Some cleared) spot = same_spot cleared spot || same_spot cleared (whole_frame frame)

-- the first of some spots, where it is told
abbrev pub first_exact : List (Option CSpot) → Option CSpot
first_exact [] = None
first_exact (spot ∷ spots) = spot

-- whether a spot that may be told is this one
abbrev pub is_spot : Option CSpot → CSpot → Bool
is_spot None spot = false
is_spot (Some one) spot = same_spot one spot

-- whether all of some spots are apart from one
abbrev pub all_apart : List CSpot → CSpot → Bool
all_apart spots spot = list_all (λ s. spots_apart s spot) spots

-- whether a part is the one whose address a call passes first, and the call is of its function
abbrev pub is_called_with : Frame → CallFrames → Text × Text → Bool
is_called_with frame call part = bytes_eq part.1 call.name && is_spot (first_exact call.exact) (frame_spot frame part.0)

-- whether a call leaves the frames within a function's own as they have to be: it passes no address that leads to one of them, or it is
-- of a function that takes a frame first, and gets its own
abbrev pub call_keeps : List Frame → Frame → CCall → Bool
call_keeps frames frame call =
    let asked : CallFrames = plain_call (framed_names frames) call in
    asked.plain
    && ((not (has_name (framed_names frames) asked.name) || list_any (is_called_with frame asked) frame.parts)
    && list_all (λ part. is_called_with frame asked part || all_apart (lent_in call) (frame_spot frame part.0)) frame.parts)

-- whether an expression that may be absent calls no function of these names
abbrev pub is_plain_or_none : List Text → Option CExpr → Bool
is_plain_or_none names None = true
is_plain_or_none names (Some e) = is_plain_expr names e

-- whether a statement's form leaves the frames within a function's own as they have to be
abbrev pub stmt_kind_keeps : List Frame → Frame → CStmtKind-F Bool Bool → Bool
stmt_kind_keeps frames frame (CStmtKind-F.Set place e) =
    (plain_place (framed_names frames) place).plain
    && (is_plain_expr (framed_names frames) e && list_all (λ part. spots_apart (spot_of_place place) (frame_spot frame part.0)) frame.parts)
stmt_kind_keeps frames frame (CStmtKind-F.Clear place struct) =
    let asked : ArgFrames = plain_place (framed_names frames) place in
    asked.plain
    && list_all
    (λ part. spots_apart (spot_of_place place) (frame_spot frame part.0) || covers frame asked.exact (frame_spot frame part.0)) frame.parts
stmt_kind_keeps frames frame (CStmtKind-F.Call call) = call_keeps frames frame call
stmt_kind_keeps frames frame (CStmtKind-F.If condition block other) =
    is_plain_expr (framed_names frames) condition && (list_all (λ b. b) block && block_or_none_stands other)
stmt_kind_keeps frames frame (CStmtKind-F.Loop turn condition body) = is_plain_expr (framed_names frames) condition && list_all (λ b. b) body
stmt_kind_keeps frames frame CStmtKind-F.Break = true
stmt_kind_keeps frames frame (CStmtKind-F.Return e) = is_plain_or_none (framed_names frames) e

-- whether a statement leaves the frames within a function's own as they have to be
abbrev pub keeps_frames : List Frame → Frame → CStmt → Bool
keeps_frames frames frame = fold-CStmt Bool Bool (stmt_kind_keeps frames frame) stmt_stands

-- whether no `return` stands in a block, and `break` in its loops alone: of a statement, with `break`, and without
pub record Ends : Type 0 where
  pub breaks : Bool
  pub returns : Bool

-- whether none of some statements has a `break` or a `return` of its own
abbrev pub none_ends : List Ends → Ends
none_ends [] = record { breaks = false; returns = false }
none_ends (one ∷ rest) = let others : Ends = none_ends rest in record { breaks = one.breaks || others.breaks; returns = one.returns || others.returns }

-- the ends of a block that may be absent
abbrev pub none_ends_in : Option (List Ends) → Ends
none_ends_in None = record { breaks = false; returns = false }
none_ends_in (Some block) = none_ends block

-- whether a statement's form has a `break` of its own, and whether it has a `return`
abbrev pub stmt_kind_ends : CStmtKind-F Ends Ends → Ends
stmt_kind_ends (CStmtKind-F.If condition block other) = none_ends (none_ends block ∷ none_ends_in other ∷ [])
stmt_kind_ends (CStmtKind-F.Loop turn condition body) = record { breaks = false; returns = (none_ends body).returns }
stmt_kind_ends CStmtKind-F.Break = record { breaks = true; returns = false }
stmt_kind_ends (CStmtKind-F.Return e) = record { breaks = false; returns = true }
stmt_kind_ends _ = record { breaks = false; returns = false }

-- a statement ends as its form does
abbrev pub stmt_ends : CStmt-F Ends Ends → Ends
stmt_ends stmt = stmt.what

-- whether a statement has a `break` of its own, and whether it has a `return`
abbrev pub ends_in : CStmt → Ends
ends_in = fold-CStmt Ends Ends stmt_kind_ends stmt_ends

-- whether a block that doesn't trap goes on
abbrev pub goes_through : List CStmt → Bool
goes_through block = let ends : Ends = none_ends (map ends_in block) in not (ends.breaks || ends.returns)

-- the first parameter is a function's pointer to its frame
abbrev pub takes_frame : Frame → List CParam → Bool
takes_frame frame [] = false
takes_frame frame (p ∷ params) = bytes_eq p.name frame.pointer

-- 0 for each local of a function that is no parameter
abbrev pub zeros_at_entry : CFunc → Valuation
zeros_at_entry f = zero_names (map (λ p. p.name) f.params) (map (λ l. l.name) f.locals)

-- what is known where a function begins: one of its frame's facts, and that its locals are 0
abbrev pub known_with_frame : Frame → CFunc → Facts
known_with_frame frame f = map (λ known. known ++ zeros_at_entry f) frame.reached

-- a function leaves one of its frame's facts in force: none is told, or they hold after its body, which goes on
pub data LeavesReached (frame : Frame) (f : CFunc) : Type 0 where
  any : frame.reached ≡ [] ∷ [] → LeavesReached frame f
  told : goes_through f.body ≡ true → AfterBlock (known_with_frame frame f) f.body frame.reached → LeavesReached frame f

-- a function keeps frames as they have to be: all calls in it may be made, it leaves the frames within its own, and its own one
pub record KeepsFrames (frames : List Frame) (f : CFunc) : Type 0 where
  pub stands : function_stands (framed_names frames) f ≡ true
  pub parts : list_all (keeps_frames frames (frame_for frames f.name)) f.body ≡ true
  pub own : has_name (framed_names frames) f.name ≡ true → takes_frame (frame_for frames f.name) f.params ≡ true
  pub reached : LeavesReached (frame_for frames f.name) f

-- ---- functions that do the same where frames are as they have to be

-- the calls of two functions of this name that may be made, with a frame as it has to be, do the same
abbrev pub CallsAlikeIn : List Frame → Text → Meaning → Meaning → Type 0
CallsAlikeIn frames name one other =
    (depth : ℕ) (passed : List ArgumentValue) (memory : Memory) → Fine (framed_names frames) name depth passed → PassesFrame frames name passed memory →
    seen_call (one depth passed memory) ≡ seen_call (other depth passed memory)

-- a call that may be made, with a frame as it has to be, leaves it so
abbrev pub KeepsOwnFrame : List Frame → Text → Meaning → Type 0
KeepsOwnFrame frames name meaning =
    (depth : ℕ) (passed : List ArgumentValue) (memory : Memory) → Fine (framed_names frames) name depth passed → PassesFrame frames name passed memory →
    is_some (meaning depth passed memory).result ≡ true → PassesFrame frames name passed (meaning depth passed memory).memory

-- two functions of this name that may be known do the same, and the first leaves its frame as it has to be
abbrev pub KnownAlikeIn : List Frame → Text → Option Meaning → Option Meaning → Type 0
KnownAlikeIn frames name None None = Unit {0}
KnownAlikeIn frames name (Some one) (Some other) = CallsAlikeIn frames name one other × KeepsOwnFrame frames name one
KnownAlikeIn frames name None (Some other) = ⊥
KnownAlikeIn frames name (Some one) None = ⊥

-- two tables know functions that do the same under every name, where frames are as they have to be, and leave them so
abbrev pub TablesAlikeIn : List Frame → Table Meaning → Table Meaning → Type 0
TablesAlikeIn frames one other = (name : Text) → KnownAlikeIn frames name (one name) (other name)

-- two functions do the same in all calls that may be made with a frame as it has to be
pub record SameFunctionIn (frames : List Frame) (f g : CFunc) : Type 0 where
  pub same : (known : Table Meaning) → TableKeeps known → CallsAlikeIn frames f.name (function_c known f) (function_c known g)

-- the functions of two files have the same names and do the same where frames are as they have to be
abbrev pub SameFunctionsIn : List Frame → List CFunc → List CFunc → Type 0
SameFunctionsIn frames [] [] = Unit {0}
SameFunctionsIn frames (f ∷ fs) (g ∷ gs) = (f.name ≡ g.name) × SameFunctionIn frames f g × SameFunctionsIn frames fs gs
SameFunctionsIn frames [] (g ∷ gs) = ⊥
SameFunctionsIn frames (f ∷ fs) [] = ⊥

-- ---- laws

-- the memory that an outcome leaves has frames as they have to be, unless it is that of a trap
abbrev pub PartsHoldAfter : List Frame → Frame → Scope → End → Memory → Type 0
PartsHoldAfter frames frame scope traps memory = Unit {0}
PartsHoldAfter frames frame scope goes_on memory = PartsHold frames frame scope memory
PartsHoldAfter frames frame scope breaks memory = PartsHold frames frame scope memory
PartsHoldAfter frames frame scope (returns n) memory = PartsHold frames frame scope memory

-- a block that leaves frames as they have to be does the same over two tables that know the same there, and leaves them so
abbrev pub TablesDecideIn : Type 0
TablesDecideIn =
    (structs : List CStruct) (frames : List Frame) → list_all (frame_fits structs frames) frames ≡ true →
    (one other : Table Meaning) → TableKeeps one → TablesAlikeIn frames one other →
    (frame : Frame) (block : List CStmt) → list_all (calls_stand_in (framed_names frames)) block ≡ true →
    list_all (keeps_frames frames frame) block ≡ true →
    (depth : ℕ) (pointers : Table Location) → PointBelow depth pointers → OwnApart pointers → (memory : Memory) →
    PartsHold frames frame (record { known = one; depth = depth; pointers = pointers }) memory →
    SameOutcome (block_c block (record { known = one; depth = depth; pointers = pointers }) memory)
    (block_c block (record { known = other; depth = depth; pointers = pointers }) memory)
    × PartsHoldAfter frames frame (record { known = one; depth = depth; pointers = pointers })
    (block_c block (record { known = one; depth = depth; pointers = pointers }) memory).end
    (block_c block (record { known = one; depth = depth; pointers = pointers }) memory).memory

-- a function that keeps frames does the same over two tables that know the same there, and leaves its own as it has to be
abbrev pub FunctionsDecideIn : Type 0
FunctionsDecideIn =
    (structs : List CStruct) (frames : List Frame) → list_all (frame_fits structs frames) frames ≡ true →
    (one other : Table Meaning) → TableKeeps one → TablesAlikeIn frames one other → (f : CFunc) → KeepsFrames frames f →
    CallsAlikeIn frames f.name (function_c one f) (function_c other f) × KeepsOwnFrame frames f.name (function_c one f)

-- a function with another body that does the same where its frame is as it has to be and its locals are 0 does the same there
abbrev pub RuleFrame : Type 0
RuleFrame =
    (structs : List CStruct) (frames : List Frame) → list_all (frame_fits structs frames) frames ≡ true →
    (f g : CFunc) → owns (framed_names frames) f ≡ true → has_name (framed_names frames) f.name ≡ true →
    takes_frame (frame_for frames f.name) f.params ≡ true → f.params ≡ g.params →
    AlikeWhere (known_with_frame (frame_for frames f.name) f) f.body g.body → SameFunctionIn frames f g

-- functions that do the same anywhere do so where frames are as they have to be, and functions that do the same there form chains
abbrev pub RuleSameIn : Type 0
RuleSameIn =
    ((frames : List Frame) (f g : CFunc) → SameFunction (framed_names frames) f g → SameFunctionIn frames f g)
    × ((frames : List Frame) (f g h : CFunc) → f.name ≡ g.name → SameFunctionIn frames f g → SameFunctionIn frames g h → SameFunctionIn frames f h)

-- the start and the tick of a file take the state first, of which nothing is told but its parts, and have the same ones
pub record FramesOfFile (structs : List CStruct) (frames : List Frame) : Type 0 where
  pub fit : list_all (frame_fits structs frames) frames ≡ true
  pub tick : (frame_for frames (codes "bl_tick")).struct ≡ codes "bl_state"
  pub parts : (frame_for frames (codes "bl_init")).parts ≡ (frame_for frames (codes "bl_tick")).parts
  pub untold : ((frame_for frames (codes "bl_init")).reached ≡ [] ∷ []) × ((frame_for frames (codes "bl_tick")).reached ≡ [] ∷ [])

-- files with the same structs have the same trace if each function does the same where frames are as they have to be
abbrev pub SameTraceIn : Type 0
SameTraceIn =
    (structs : List CStruct) (fs gs : List CFunc) (frames : List Frame) → WellFormed (record { structs = structs; funcs = fs }) →
    FramesOfFile structs frames → All (KeepsFrames frames) fs → SameFunctionsIn frames fs gs →
    (rows : List (List ℤ)) → c_trace (record { structs = structs; funcs = fs }) rows ≡ c_trace (record { structs = structs; funcs = gs }) rows
