-- What calls leave as it is and what they depend on: nothing to which they have no pointer.
use Rattle.std.specs.Prelude.{◌≡◌, ℕ, ◌+◌, Bool, true, false, ◌&&◌, List, [], ◌∷◌, Some, All, is_some}
use Rattle.bl_tree.specs.declared.text.Text.{Text}
use Rattle.bl_tree.specs.declared.c.CCall.{CCall}
use Rattle.bl_tree.specs.declared.c.CFunc.{CFunc}
use Rattle.bl_ctext_semantics.specs.Meaning.{ArgumentValue, by_address, by_value, Meaning, Scope, call_c, function_c}
use Rattle.bl_ctext_semantics.specs.Memory.{Location, Memory, Projection, Root, left_after, same_root}
use Rattle.bl_ctext_semantics.specs.Tables.{Table}
use Rattle.bl_simplify_laws.specs.declared.facts.CSpot.{CSpot}
use Rattle.bl_simplify_laws.specs.Observed.{PointBelow, RootBelow, SeenCall, failed, gave, seen_call}
use Rattle.bl_simplify_laws.specs.Spots.{OwnApart, lent_in, spot_location}

-- ---- what calls leave

-- whether a number of memory, at a way from a root, lies in a location
abbrev pub lies_in : Location → Root → List Projection → Bool
lies_in place root way = same_root place.root root && is_some (left_after place.parts way)

-- no argument is a pointer to a location in which this number lies
abbrev pub NotPassed : Root → List Projection → List ArgumentValue → Type 0
NotPassed root way [] = Unit {0}
NotPassed root way (by_value value ∷ rest) = NotPassed root way rest
NotPassed root way (by_address place ∷ rest) = (lies_in place root way ≡ false) × NotPassed root way rest

-- a call leaves the numbers that are there before it and to which it has no pointer
abbrev pub LeavesOthers : Meaning → Type 0
LeavesOthers meaning =
    (depth : ℕ) (passed : List ArgumentValue) (memory : Memory) (root : Root) (way : List Projection) →
    RootBelow depth root → NotPassed root way passed → (meaning depth passed memory).memory root way ≡ memory root way

-- each known function leaves what it has no pointer to
abbrev pub TableLeaves : Table Meaning → Type 0
TableLeaves known = (name : Text) (meaning : Meaning) → known name ≡ Some meaning → LeavesOthers meaning

-- ---- what calls depend on

-- two memories are the same at the roots that count
abbrev pub SameAt : (Root → Bool) → Memory → Memory → Type 0
SameAt counts m n = (root : Root) → counts root ≡ true → m root ≡ n root

-- two calls both trap, or give the same number and memories that are the same at the roots that count
abbrev pub SameCallAt : (Root → Bool) → SeenCall → SeenCall → Type 0
SameCallAt counts failed failed = Unit {0}
SameCallAt counts (gave a m) (gave b n) = (a ≡ b) × SameAt counts m n
SameCallAt counts failed (gave b n) = ⊥
SameCallAt counts (gave a m) failed = ⊥

-- each pointer among the arguments leads to a root that counts
abbrev pub PassedCounts : (Root → Bool) → List ArgumentValue → Type 0
PassedCounts counts [] = Unit {0}
PassedCounts counts (by_value value ∷ rest) = PassedCounts counts rest
PassedCounts counts (by_address place ∷ rest) = (counts place.root ≡ true) × PassedCounts counts rest

-- a call depends on nothing but the roots to which it has pointers
abbrev pub DependsOnPassed : Meaning → Type 0
DependsOnPassed meaning =
    (counts : Root → Bool) (depth : ℕ) (passed : List ArgumentValue) → PassedCounts counts passed → (m n : Memory) → SameAt counts m n →
    SameCallAt counts (seen_call (meaning depth passed m)) (seen_call (meaning depth passed n))

-- each known function depends on nothing else
abbrev pub TableDepends : Table Meaning → Type 0
TableDepends known = (name : Text) (meaning : Meaning) → known name ≡ Some meaning → DependsOnPassed meaning

-- ---- where bodies run

-- known functions leave what they have no pointer to, and don't depend on it
pub record TableKeeps (known : Table Meaning) : Type 0 where
  pub leaves : TableLeaves known
  pub depends : TableDepends known

-- a scope in which bodies of functions run: known functions keep to their pointers, pointers lead to what is there before,
-- and a function's own pointers lead apart from the others
pub record Running (scope : Scope) : Type 0 where
  pub keeps : TableKeeps scope.known
  pub below : PointBelow scope.depth scope.pointers
  pub apart : OwnApart scope.pointers

-- ---- laws

-- this number lies in no spot
abbrev pub SpotApart : Scope → Root → List Projection → CSpot → Type 0
SpotApart scope root way spot = lies_in (spot_location scope spot) root way ≡ false

-- a call leaves a number that lies in none of the spots whose addresses it gets
abbrev pub CallsLeave : Type 0
CallsLeave =
    (scope : Scope) → TableLeaves scope.known → (root : Root) (way : List Projection) → RootBelow (scope.depth + 1) root →
    (call : CCall) → All (SpotApart scope root way) (lent_in call) → (memory : Memory) → (call_c call scope memory).memory root way ≡ memory root way

-- a function keeps to its pointers where the functions do that it calls
abbrev pub FunctionsKeep : Type 0
FunctionsKeep =
    (known : Table Meaning) → TableKeeps known → (function : CFunc) →
    LeavesOthers (function_c known function) × DependsOnPassed (function_c known function)
