-- What is known after a statement.
use Rattle.std.specs.Prelude.{◌≡◌, Bool, true, false, List, [], ◌∷◌, map, Option, Some, None, if◌then◌else◌}
use Rattle.std.specs.List.{list_all}
use Rattle.std.specs.Ordering.{int_eq}
use Rattle.bl_tree.specs.declared.place.Place.{Place}
use Rattle.bl_tree.specs.declared.c.CCall.{CCall}
use Rattle.bl_tree.specs.declared.c.CExpr.{CExpr}
use Rattle.bl_tree.specs.declared.c.CPlace.{CPlace}
use Rattle.bl_tree.specs.declared.c.CStmt.{CStmt, roll-CStmt}
use Rattle.bl_tree.specs.declared.c.CStmtKind.{roll-CStmtKind}
use Rattle.bl_tree.specs.declared.c.CStmtKind.TheOpen.{CStmtKind-F}
use Rattle.bl_ctext_semantics.specs.Course.{going, goes_on}
use Rattle.bl_ctext_semantics.specs.Meaning.{Scope, call_c, runs_c}
use Rattle.bl_ctext_semantics.specs.Memory.{Memory}
use Rattle.bl_simplify_laws.specs.declared.facts.CSpot.{CSpot}
use Rattle.bl_simplify_laws.specs.declared.facts.Fact.{Fact}
use Rattle.bl_simplify_laws.specs.declared.facts.Fact.TheVariants.{Is}
use Rattle.bl_simplify_laws.specs.Frames.{Running}
use Rattle.bl_simplify_laws.specs.Known.{Holds, Valuation, fact_in, place_is, told}
use Rattle.bl_simplify_laws.specs.Observed.{SameOutcome}
use Rattle.bl_simplify_laws.specs.Spots.{lent_in, spot_of_place, spots_apart}

-- what is still known after something in a spot may have changed
abbrev pub without_spot : CSpot → Valuation → Valuation
without_spot gone [] = []
without_spot gone (entry ∷ rest) = if spots_apart gone entry.0 then entry ∷ without_spot gone rest else without_spot gone rest

-- what is still known after something in each of some spots may have changed
abbrev pub without_spots : List CSpot → Valuation → Valuation
without_spots [] known = known
without_spots (gone ∷ spots) known = without_spot gone (without_spots spots known)

-- what is known after a spot got a value of which a fact may be known
abbrev pub with_fact : CSpot → Option Fact → Valuation → Valuation
with_fact spot (Some fact) known = (spot, fact) ∷ without_spot spot known
with_fact spot None known = without_spot spot known

-- what is known after a place was set that may be a spot, and lies in one
abbrev pub set_known : Option CSpot → CSpot → Option Fact → Valuation → Valuation
set_known (Some spot) around fact known = with_fact spot fact known
set_known None around fact known = without_spot around known

-- what is known after an assignment
abbrev pub after_set : CPlace → CExpr → Valuation → Valuation
after_set place e known = set_known (place_is place).spot (spot_of_place place) ((told e).fact known) known

-- the assignment statement
abbrev pub set_stmt : Place → CPlace → CExpr → CStmt
set_stmt at place e = roll-CStmt (record { place = at; what = roll-CStmtKind (CStmtKind-F.Set place e) })

-- what is known after an assignment holds, where pointers lead to what is there before the function
abbrev pub SetSteps : Type 0
SetSteps =
    (scope : Scope) → Running scope → (memory : Memory) (facts : List Valuation) → Holds facts scope memory →
    (at : Place) (place : CPlace) (e : CExpr) → (runs_c (set_stmt at place e) scope memory).end ≡ goes_on →
    Holds (map (after_set place e) facts) scope (runs_c (set_stmt at place e) scope memory).memory

-- what is known holds after a call, but for the spots whose addresses it gets
abbrev pub CallSteps : Type 0
CallSteps =
    (scope : Scope) → Running scope → (memory : Memory) (facts : List Valuation) →
    Holds facts scope memory → (call : CCall) → Holds (map (without_spots (lent_in call)) facts) scope (call_c call scope memory).memory

-- whether both are known to be one number and nothing beside it
abbrev pub same_whole : Option Fact → Option Fact → Bool
same_whole (Some (Is a)) (Some (Is b)) = int_eq a b
same_whole _ _ = false

-- whether each of the valuations gives the expression the number that the spot has
abbrev pub all_same : List Valuation → CSpot → CExpr → Bool
all_same facts spot e = list_all (λ known. same_whole ((told e).fact known) (fact_in spot known)) facts

-- an assignment to a spot of the number that it has changes nothing
abbrev pub SameSteps : Type 0
SameSteps =
    (scope : Scope) (memory : Memory) (facts : List Valuation) → Holds facts scope memory →
    (at : Place) (place : CPlace) (e : CExpr) (spot : CSpot) → (place_is place).spot ≡ Some spot → all_same facts spot e ≡ true →
    SameOutcome (runs_c (set_stmt at place e) scope memory) (going memory)
