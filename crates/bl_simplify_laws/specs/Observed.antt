-- What is seen of outcomes and calls: no counts, and no memory behind a trap.
use Rattle.std.specs.Prelude.{◌≡◌, ℕ, ℤ, List, [], ◌∷◌, Option, Some, None, ◌<◌}
use Rattle.bl_tree.specs.declared.text.Text.{Text}
use Rattle.bl_ctext_semantics.specs.Course.{End, goes_on, breaks, returns, traps, Outcome}
use Rattle.bl_ctext_semantics.specs.Meaning.{ArgumentValue, by_address, by_value, CallResult}
use Rattle.bl_ctext_semantics.specs.Memory.{Location, Memory, Root, state_object, input_object, output_object, variable}
use Rattle.bl_ctext_semantics.specs.Tables.{Table}

-- what is seen of an outcome
pub data Observed (M : Type 0) : Type 0 where
  trapped : Observed M
  went_on : M → Observed M
  broke : M → Observed M
  returned : ℤ → M → Observed M

-- what is seen of this end with this memory
abbrev pub observed_at : {M : Type 0} → End → M → Observed M
observed_at goes_on memory = went_on memory
observed_at breaks memory = broke memory
observed_at (returns result) memory = returned result memory
observed_at traps memory = trapped

-- what is seen of an outcome
abbrev pub observed : {M : Type 0} → Outcome M → Observed M
observed o = observed_at o.end o.memory

-- two outcomes differ at most in their counts, and in the memory behind a trap
abbrev pub SameOutcome : {M : Type 0} → Outcome M → Outcome M → Type 0
SameOutcome o p = observed o ≡ observed p

-- two memories are the same, unless the end is a trap
abbrev pub SameUnless : {M : Type 0} → End → M → M → Type 0
SameUnless traps m n = Unit {0}
SameUnless goes_on m n = m ≡ n
SameUnless breaks m n = m ≡ n
SameUnless (returns result) m n = m ≡ n

-- outcomes that are alike have the same end, and the same memory unless that is a trap
abbrev pub AlikeSays : Type 0
AlikeSays = (o p : Outcome Memory) → SameOutcome o p → (o.end ≡ p.end) × SameUnless o.end o.memory p.memory

-- outcomes are alike that have the same end, and the same memory unless that is a trap
abbrev pub AlikeIs : Type 0
AlikeIs = (o p : Outcome Memory) → o.end ≡ p.end → SameUnless o.end o.memory p.memory → SameOutcome o p

-- ---- calls

-- what is seen of a call: its memory and its result, nothing where it traps
pub data SeenCall : Type 0 where
  failed : SeenCall
  gave : ℤ → Memory → SeenCall

-- what is seen of a call with this memory and this result
abbrev pub call_seen_at : Option ℤ → Memory → SeenCall
call_seen_at None memory = failed
call_seen_at (Some result) memory = gave result memory

-- what is seen of a call
abbrev pub seen_call : CallResult → SeenCall
seen_call c = call_seen_at c.result c.memory

-- ---- where pointers lead

-- a root that belongs to no function that runs at this depth or deeper
abbrev pub RootBelow : ℕ → Root → Type 0
RootBelow depth state_object = Unit {0}
RootBelow depth input_object = Unit {0}
RootBelow depth output_object = Unit {0}
RootBelow depth (variable d name) = d < depth

-- an argument that is no pointer, or one to what belongs to no function at this depth or deeper
abbrev pub PassesBelow : ℕ → ArgumentValue → Type 0
PassesBelow depth (by_value value) = Unit {0}
PassesBelow depth (by_address place) = RootBelow depth place.root

-- arguments with which a function can be called at this depth
abbrev pub PassedBelow : ℕ → List ArgumentValue → Type 0
PassedBelow depth [] = Unit {0}
PassedBelow depth (a ∷ rest) = PassesBelow depth a × PassedBelow depth rest

-- each pointer leads to what belongs to no function at this depth or deeper
abbrev pub PointBelow : ℕ → Table Location → Type 0
PointBelow depth pointers = (name : Text) (place : Location) → pointers name ≡ Some place → RootBelow depth place.root
