-- What holds of the C of a pass, beside the registers of the pass.
use Rattle.std.specs.Prelude.{◌≡◌, ℕ, suc, ◌≤◌, pos, Bool, true, false, ◌&&◌, ◌||◌, List, [], ◌∷◌, Option, None, Some, nat_eq, option_map}
use Rattle.std.specs.List.{list_all}
use Rattle.bl_tree.specs.Numbers.{number_of}
use Rattle.bl_tree.specs.Scalar.{in_range}
use Rattle.bl_tree.specs.Typing.{TypingContext}
use Rattle.bl_graph_nodes.specs.Nodes.{Node}
use Rattle.bl_machine.specs.declared.slots.Slot.{Slot}
use Rattle.bl_ctext_semantics.specs.Course.{goes_on}
use Rattle.bl_ctext_semantics.specs.Meaning.{Scope, block_c, value_c}
use Rattle.bl_ctext_semantics.specs.Memory.{Memory, scalar_number}
use Rattle.bl_machine_pass.specs.Registers.{Registers, all_changed, due_by}
use Rattle.bl_machine_pass.specs.Transitions.{Age, Change, Condition}
use Rattle.bl_machine_pass.specs.Transitions.{ClearsBoth, ClearsCounter, Ended, EndsWhen, Finishes, Flagged, IsAny, IsNew, IsOld, Rested, RestedIn, SetsCounter, SetsFlag, SetsMark}
use Rattle.bl_emit_spec.specs.Blocks.{ActivityView, Sizes, changes_code, counter_type, entered_by, greatest_value, guard_of}
use Rattle.bl_emit_spec_laws.specs.Registers.Registers.{ApartFromPointers, FewRegisters, FramePointersAreValid, PointersOlder, Registered, RegistersApart}
use Rattle.bl_emit_spec_laws.specs.Registers.Registers.{RegistersBeside}
use Rattle.bl_emit_spec_laws.specs.Registers.Registers.{RegistersEncoded, RegistersEncodedAfter, frame_at, over_at}

-- whether a change ends the body
abbrev pub ends_body : Change → Bool
ends_body Finishes = true
ends_body _ = false

-- whether all that a change sets or looks at is a register of the activity
abbrev pub changes_its_own : (Node → ℕ) → Registered → Change → Bool
changes_its_own number has (SetsFlag n) = has.flags (number n)
changes_its_own number has (SetsCounter slot) = has.counters slot.counter
changes_its_own number has (ClearsCounter k) = has.counters k
changes_its_own number has (ClearsBoth k) = has.counters k
changes_its_own number has (SetsMark n) = has.marks (number n)
changes_its_own number has (EndsWhen start surface depth) = has.marks (number start) && (has.flags (number surface) && has.flags (number depth))
changes_its_own number has Finishes = has.over

-- the counters that have copies are those that C copies
abbrev pub CopiesAgree : ActivityView → Registered → Type 0
CopiesAgree view has = (k : ℕ) → view.is_read k ≡ has.copied k

-- flags and marks have the words that they have in C
abbrev pub WordsAgree : ActivityView → Registered → Type 0
WordsAgree view has = (k : ℕ) → view.word k ≡ has.words k

-- the C of changes goes on, and leaves memory that holds the changed registers, and all else as it was
abbrev pub ChangesSimulate : Type 0
ChangesSimulate =
    (view : ActivityView) (has : Registered) (scope : Scope) (changes : List Change) (r : Registers) (here : Memory) → CopiesAgree view has →
    WordsAgree view has → RegistersApart has scope → RegistersEncoded has scope r here → list_all (changes_its_own view.number has) changes ≡ true →
    ((block_c (changes_code view changes) scope here).end ≡ goes_on)
    × RegistersEncodedAfter has scope (all_changed view.number changes r) here (block_c (changes_code view changes) scope here).memory

-- ---- guards

-- whether the numbers have this counter and consecutive values from this one on
abbrev pub follow_on : ℕ → ℕ → List Slot → Bool
follow_on k v [] = true
follow_on k v (slot ∷ rest) = nat_eq slot.counter k && (nat_eq slot.value v && follow_on k (suc v) rest)

-- whether numbers have one counter, and values that follow one another
abbrev pub are_in_a_row : List Slot → Bool
are_in_a_row [] = true
are_in_a_row (slot ∷ rest) = follow_on slot.counter (suc slot.value) rest

-- no counter held more than its greatest value as the tick began
abbrev pub RestsWithin : Sizes → Registers → Type 0
RestsWithin sizes r = (k : ℕ) → r.rested k ≤ greatest_value sizes k

-- no counter holds more than its greatest value, now or as the tick began
pub record RegistersWithin (sizes : Sizes) (r : Registers) : Type 0 where
  pub counters : (k : ℕ) → r.counters k ≤ greatest_value sizes k
  pub rested : RestsWithin sizes r

-- whether a value is a number of its counter's type
abbrev pub fits_counter : Sizes → Slot → Bool
fits_counter sizes slot = in_range (counter_type sizes slot.counter) (pos slot.value)

-- whether the mark that tells the age is a register of the activity
abbrev pub has_age : (Node → ℕ) → Registered → Age → Bool
has_age number has (IsNew n) = has.marks (number n)
has_age number has (IsOld n) = has.marks (number n)
has_age number has IsAny = true

-- whether all that is asked is told by registers of the activity, and numbers of which some one is asked for are in a row
abbrev pub asks_its_own : ActivityView → Registered → Node → Condition → Bool
asks_its_own view has n Flagged = has.flags (view.number n)
asks_its_own view has n (Rested slot) = has.copied slot.counter
asks_its_own view has n (RestedIn slots) =
    list_all (λ slot. has.copied slot.counter) slots && (list_all (fits_counter view.sizes) slots && are_in_a_row slots)
asks_its_own view has n (Ended age needed) = has_age view.number has age && list_all (λ slot. has.counters slot.counter) needed.slots

-- whether the flag of the block before is a register of the activity, where that block leaves its call
abbrev pub has_left : Registered → Option ℕ → Bool
has_left has None = true
has_left has (Some k) = has.flags k

-- whether the block before has left its call: its flag is set
abbrev pub is_left : Registers → Option ℕ → Bool
is_left r None = false
is_left r (Some k) = r.flags k

-- the C of a block's test doesn't trap, and is 1 where the guard holds or the block before has left its call, and else 0
abbrev pub GuardsEvaluate : Type 0
GuardsEvaluate =
    (view : ActivityView) (has : Registered) (scope : Scope) (before : Option ℕ) (n : Node) (condition : Condition) (r : Registers) (here : Memory) →
    WordsAgree view has → RegistersEncoded has scope r here → RestsWithin view.sizes r → has_left has before ≡ true → asks_its_own view has n condition ≡ true →
    option_map scalar_number (value_c (entered_by view.word before (guard_of view n condition)) scope here).answer
    ≡ Some (number_of (is_left r before || due_by view.number r n condition))

-- ---- what keeps apart

-- the places of registers are apart from one another, from variables and from copies, where the pointers are valid
abbrev pub RegistersKeepApart : Type 0
RegistersKeepApart =
    (site : TypingContext) (has : Registered) (scope : Scope) → FewRegisters has → FramePointersAreValid has.over scope → PointersOlder site scope →
    ApartFromPointers site scope (frame_at scope) → (has.over ≡ true → ApartFromPointers site scope (over_at scope)) →
    RegistersApart has scope × RegistersBeside has site scope
