-- The rules by number and name, the order of failures, and the first rule that fails.
use Rattle.std.specs.Prelude.{◌≡◌, ◌⊎◌, ℕ, ◌<◌, ◌≤◌, Bool, true, false, ◌&&◌, ◌||◌, nat_eq, nat_lt, Contains, List, [], ◌∷◌, codes, Option, Some, None}
use Rattle.std.specs.Prelude.{if◌then◌else◌, ⊤}
use Rattle.bl_tree.specs.declared.place.Place.{Place}
use Rattle.bl_tree.specs.declared.rule.Failure.{Failure}
use Rattle.bl_tree.specs.declared.rule.Further.{Further}
use Rattle.bl_tree.specs.declared.rule.Further.TheVariants.{Nothing, One, Two}
use Rattle.bl_tree.specs.declared.rule.Refusal.{Refusal}
use Rattle.bl_tree.specs.declared.rule.Refusal.TheVariants as refusal
use Rattle.bl_tree.specs.declared.rule.Rule.{Rule}
use Rattle.bl_tree.specs.declared.rule.Rule.TheVariants as rule

-- the number of a rule: the one with the least number is told
abbrev pub number_of : Rule → ℕ
number_of rule.Size = 1
number_of rule.Lex = 2
number_of rule.Profile = 3
number_of rule.Depth = 4
number_of rule.Syntax = 5
number_of rule.Duplicate = 6
number_of rule.Unknown = 7
number_of rule.Kind = 8
number_of rule.Type = 9
number_of rule.Literal = 10
number_of rule.Immutable = 11
number_of rule.Constant = 12
number_of rule.Arity = 13
number_of rule.Prev = 14
number_of rule.Return = 15
number_of rule.Where = 16
number_of rule.Entry = 17
number_of rule.Pause = 18
number_of rule.Conflict = 19
number_of rule.Alias = 20
number_of rule.Instant = 21
number_of rule.Twice = 22
number_of rule.Cycle = 23
number_of rule.Frames = 24
number_of rule.Cells = 25

-- the word by which a line names a rule
abbrev pub name_of : Rule → List ℕ
name_of rule.Size = codes "Size"
name_of rule.Lex = codes "Lex"
name_of rule.Profile = codes "Profile"
name_of rule.Depth = codes "Depth"
name_of rule.Syntax = codes "Syntax"
name_of rule.Duplicate = codes "Duplicate"
name_of rule.Unknown = codes "Unknown"
name_of rule.Kind = codes "Kind"
name_of rule.Type = codes "Type"
name_of rule.Literal = codes "Literal"
name_of rule.Immutable = codes "Immutable"
name_of rule.Constant = codes "Constant"
name_of rule.Arity = codes "Arity"
name_of rule.Prev = codes "Prev"
name_of rule.Return = codes "Return"
name_of rule.Where = codes "Where"
name_of rule.Entry = codes "Entry"
name_of rule.Pause = codes "Pause"
name_of rule.Conflict = codes "Conflict"
name_of rule.Alias = codes "Alias"
name_of rule.Instant = codes "Instant"
name_of rule.Twice = codes "Twice"
name_of rule.Cycle = codes "Cycle"
name_of rule.Frames = codes "Frames"
name_of rule.Cells = codes "Cells"

-- ---- places in order

-- whether two places have equal starts and equal ends
abbrev pub same_place : Place → Place → Bool
same_place a b = nat_eq a.start b.start && nat_eq a.end b.end

-- the strict lexicographic order of places by start, and then by end, as a test
abbrev pub is_before : Place → Place → Bool
is_before a b = nat_lt a.start b.start || (nat_eq a.start b.start && nat_lt a.end b.end)

-- the strict lexicographic order of places by start, and then by end, as a relation
abbrev pub IsBefore : Place → Place → Type 0
IsBefore one other = (one.start < other.start) ⊎ ((one.start ≡ other.start) × (one.end < other.end))

-- the places come no later than the others: the first that differ decide
abbrev pub AreNoLater : List Place → List Place → Type 0
AreNoLater [] others = ⊤
AreNoLater (one ∷ rest) [] = ⊥
AreNoLater (one ∷ rest) (other ∷ others) = IsBefore one other ⊎ ((one ≡ other) × AreNoLater rest others)

-- ---- the first rule that fails

-- whether the further places of the rule's line are a closed walk in a tick graph, of which no least one is asked
abbrev pub tells_walk : Rule → Bool
tells_walk rule.Twice = true
tells_walk rule.Cycle = true
tells_walk _ = false

-- the places that order failures of one rule: all places of its line, and for a closed walk its first alone
abbrev pub compared : Rule → Place → List Place → List Place
compared rule at also = if tells_walk rule then at ∷ [] else at ∷ also

-- the rule has the least number of those that fail, and the least places at which it fails, closed walks not compared
pub record FailsFirst (Fails : Rule → Place → List Place → Type 0) (rule : Rule) (at : Place) (also : List Place) : Type 0 where
  pub fails : Fails rule at also
  pub least_rule : (other : Rule) (elsewhere : Place) (further : List Place) → Fails other elsewhere further → number_of rule ≤ number_of other
  pub least_places : (elsewhere : Place) (further : List Place) → Fails rule elsewhere further →
      AreNoLater (compared rule at also) (compared rule elsewhere further)

-- no rule fails
abbrev pub Passes : (Rule → Place → List Place → Type 0) → Type 0
Passes Fails = (rule : Rule) (at : Place) (also : List Place) → ¬ Fails rule at also

-- the refusal tells the first rule that fails; want of memory needs no cause
abbrev pub IsCause : (Rule → Place → List Place → Type 0) → Refusal → Type 0
IsCause Fails (refusal.Rule rule place also) = FailsFirst Fails rule place also
IsCause Fails refusal.NoMemory = ⊤

-- ---- failures as values

-- the places that a failure's line names beside the first
abbrev pub further_places : Further → List Place
further_places Nothing = []
further_places (One x) = x ∷ []
further_places (Two x y) = x ∷ y ∷ []

-- all places that its line names
abbrev pub places_of : Failure → List Place
places_of failure = failure.at ∷ further_places failure.further

-- whether the first places that differ, or are missing, come before the others
abbrev pub come_before : List Place → List Place → Bool
come_before [] [] = false
come_before [] (other ∷ others) = true
come_before (one ∷ rest) [] = false
come_before (one ∷ rest) (other ∷ others) = if same_place one other then come_before rest others else is_before one other

-- the lesser rule comes first, and of one rule the first places that differ decide
abbrev pub comes_before : Failure → Failure → Bool
comes_before a b =
    if nat_eq (number_of a.rule) (number_of b.rule)
    then come_before (places_of a) (places_of b)
    else nat_lt (number_of a.rule) (number_of b.rule)

-- the lesser of an optional failure and another failure
abbrev pub lesser : Option Failure → Failure → Option Failure
lesser None failure = Some failure
lesser (Some first) failure = if comes_before failure first then Some failure else Some first

-- the least of an optional failure and a list of failures
abbrev pub first_of : Option Failure → List Failure → Option Failure
first_of first [] = first
first_of first (failure ∷ rest) = first_of (lesser first failure) rest

-- a list of failures has one with this rule, place and further places
pub record FailsAmong (failures : List Failure) (rule : Rule) (at : Place) (also : List Place) : Type 0 where
  pub failure : Failure
  pub is_there : Contains failures failure
  pub of_rule : rule ≡ failure.rule
  pub at_place : at ≡ failure.at
  pub further : also ≡ further_places failure.further

-- the refusal tells this failure, or memory was refused
abbrev pub Refuses : Failure → Refusal → Type 0
Refuses failure (refusal.Rule rule place also) = (rule ≡ failure.rule) × ((place ≡ failure.at) × (also ≡ further_places failure.further))
Refuses failure refusal.NoMemory = ⊤
