-- Spots: variables, what pointers lead to, and members of these; which of them have nothing in common.
use Rattle.std.specs.Prelude.{◌≡◌, Bool, true, false, not, ◌&&◌, ◌||◌, List, [], ◌∷◌, Option, Some, None, bytes_eq, codes, if◌then◌else◌}
use Rattle.bl_tree.specs.declared.text.Text.{Text}
use Rattle.bl_tree.specs.declared.c.CArg.TheOpen.{CArg-F, CExprKind-F, CCall-F, CExpr-F, CIndex-F, CPlace-F, CStep-F}
use Rattle.bl_tree.specs.declared.c.CArg.{CArg, fold-CArg}
use Rattle.bl_tree.specs.declared.c.CCall.{CCall, fold-CCall}
use Rattle.bl_tree.specs.declared.c.CPlace.{CPlace, fold-CPlace}
use Rattle.bl_tree.specs.declared.c.CStep.{CStep, fold-CStep}
use Rattle.bl_tree.specs.Reduce.{joined}
use Rattle.bl_ctext.specs.Folds.{OpenPart}
use Rattle.bl_ctext_semantics.specs.Meaning.{Scope, further, named_location}
use Rattle.bl_ctext_semantics.specs.Memory.{Location, Projection, member, same_part, same_root}
use Rattle.bl_ctext_semantics.specs.Tables.{Table}
use Rattle.bl_simplify_laws.specs.declared.facts.CSpot.{CSpot}

-- ---- places of memory

-- whether two ways part: neither begins with the other
abbrev pub ways_part : List Projection → List Projection → Bool
ways_part [] way = false
ways_part (p ∷ ps) [] = false
ways_part (p ∷ ps) (q ∷ qs) = if same_part p q then ways_part ps qs else true

-- whether two locations have no number in common
abbrev pub are_apart : Location → Location → Bool
are_apart a b = if same_root a.root b.root then ways_part a.parts b.parts else true

-- ---- spots

-- the way to a first member
abbrev pub first_part : Option Text → List Projection
first_part None = []
first_part (Some m) = member m ∷ []

-- the location of a spot
abbrev pub spot_location : Scope → CSpot → Location
spot_location scope spot = further (named_location scope spot.through spot.name) (first_part spot.first)

-- whether two first members are told and differ
abbrev pub firsts_differ : Option Text → Option Text → Bool
firsts_differ (Some m) (Some n) = not (bytes_eq m n)
firsts_differ (Some m) None = false
firsts_differ None first = false

-- whether two first members are the same
abbrev pub same_first : Option Text → Option Text → Bool
same_first (Some m) (Some n) = bytes_eq m n
same_first (Some m) None = false
same_first None (Some n) = false
same_first None None = true

-- whether two truths are the same
abbrev pub same_truth : Bool → Bool → Bool
same_truth true b = b
same_truth false b = not b

-- whether two spots are the same
abbrev pub same_spot : CSpot → CSpot → Bool
same_spot a b = same_truth a.through b.through && (bytes_eq a.name b.name && same_first a.first b.first)

-- whether a pointer of this name leads to what its function alone has: `s` to the state of a tick, `f` to the frame of an activity
abbrev pub is_own : Text → Bool
is_own name = bytes_eq name (codes "f") || bytes_eq name (codes "s")

-- whether two spots surely have nothing in common, where pointers of a function's own lead apart from its other ones
abbrev pub spots_apart : CSpot → CSpot → Bool
spots_apart a b =
    if bytes_eq a.name b.name
    then same_truth a.through b.through && firsts_differ a.first b.first
    else not (a.through && b.through) || (is_own a.name || is_own b.name)

-- a pointer of a function's own leads apart from where each other pointer leads
abbrev pub OwnApart : Table Location → Type 0
OwnApart pointers =
    (a b : Text) (k l : Location) → is_own a ≡ true → bytes_eq a b ≡ false → pointers a ≡ Some k → pointers b ≡ Some l → are_apart k l ≡ true

-- ---- the spots of places, and those to which a call gets pointers

-- a layer with spots for each argument and call, a spot for each place, a member for each step, and nothing for other parts
abbrev pub Lends : OpenPart → Type 0
Lends Of = Of (List CSpot) (Unit {0}) (List CSpot) (Unit {0}) (Unit {0}) CSpot Text

-- the spots whose addresses an argument passes on
abbrev pub arg_lends : Lends CArg-F → List CSpot
arg_lends (CArg-F.Value value) = []
arg_lends (CArg-F.Address spot) = spot ∷ []

-- an expression's form passes no address on
abbrev pub kind_lends : Lends CExprKind-F → Unit {0}
kind_lends kind = tt

-- the spots whose addresses a call passes on
abbrev pub call_lends : Lends CCall-F → List CSpot
call_lends call = joined call.args

-- an expression passes no address on
abbrev pub expr_lends : Lends CExpr-F → Unit {0}
expr_lends expr = tt

-- an index passes no address on
abbrev pub index_lends : Lends CIndex-F → Unit {0}
index_lends index = tt

-- the first of some members
abbrev pub first_of : List Text → Option Text
first_of [] = None
first_of (m ∷ members) = Some m

-- the spot in which a place lies
abbrev pub place_lends : Lends CPlace-F → CSpot
place_lends place = record { through = place.through; name = place.name; first = first_of place.steps }

-- the member to which a step leads
abbrev pub step_lends : Lends CStep-F → Text
step_lends step = step.member

-- the spot in which a place lies
abbrev pub spot_of_place : CPlace → CSpot
spot_of_place = fold-CPlace _ _ _ _ _ _ _ arg_lends kind_lends call_lends expr_lends index_lends place_lends step_lends

-- the member to which a step leads
abbrev pub member_of_step : CStep → Text
member_of_step = fold-CStep _ _ _ _ _ _ _ arg_lends kind_lends call_lends expr_lends index_lends place_lends step_lends

-- the spots whose addresses an argument passes on
abbrev pub lent_by : CArg → List CSpot
lent_by = fold-CArg _ _ _ _ _ _ _ arg_lends kind_lends call_lends expr_lends index_lends place_lends step_lends

-- the spots whose addresses a call passes on
abbrev pub lent_in : CCall → List CSpot
lent_in = fold-CCall _ _ _ _ _ _ _ arg_lends kind_lends call_lends expr_lends index_lends place_lends step_lends
