-- What the rules of an activity tell, by numbers, of the registers of its passes.
use Rattle.std.specs.Prelude.{ℕ, Bool, true, false, List, [], ◌∷◌, ◌++◌, map, nat_eq, Option, Some, None, slice_get, if◌then◌else◌}
use Rattle.std.specs.List.{list_any}
use Rattle.bl_tree.specs.declared.text.Text.{Text}
use Rattle.bl_tree.specs.declared.c.CLocal.{CLocal}
use Rattle.bl_tree.specs.declared.scalar.Scalar.TheVariants.{Bool as OfBool}
use Rattle.bl_tree.specs.Reduce.{joined}
use Rattle.bl_machine_transitions.specs.declared.transition.Condition.{Condition}
use Rattle.bl_machine_transitions.specs.declared.transition.Condition.TheVariants.{Ended, Flagged, Rested, RestedIn}
use Rattle.bl_machine_transitions.specs.declared.transition.Change.{Change}
use Rattle.bl_machine_transitions.specs.declared.transition.Change.TheVariants.{ClearBoth, ClearCounter, EndWhen, Finish, SetCounter, SetFlag, SetMark}
use Rattle.bl_machine_transitions.specs.Told.{Acts, Enters, Nothing, NumberedTransition, Resumes, Task, Tests}
use Rattle.bl_emit_spec.specs.Activities.{RunAt, one_a_place, scalar_local}
use Rattle.bl_emit_spec.specs.Names.{flag_name, mark_name, with_word}

-- ---- counters

-- whether a rule asks what the counter held when the tick began
abbrev pub asks_counter : ℕ → Condition → Bool
asks_counter k Flagged = false
asks_counter k (Rested slot) = nat_eq k slot.counter
asks_counter k (RestedIn slots) = list_any (λ slot. nat_eq k slot.counter) slots
asks_counter k (Ended age needed) = false

-- whether some rule asks what the counter held
abbrev pub read_told : List NumberedTransition → ℕ → Bool
read_told rules k = list_any (λ rule. asks_counter k rule.condition) rules

-- ---- runs

-- a `run`, where one begins at the node with the number
abbrev pub run_told : ℕ → Task → List RunAt
run_told number (Nothing kind) = []
run_told number (Acts s) = []
run_told number (Tests e) = []
run_told number (Enters at a arguments) = record { place = at; number = number; unit = a } ∷ []
run_told number (Resumes at a arguments) = []

-- the `run`s of an activity, in source order
abbrev pub all_runs_told : List NumberedTransition → List RunAt
all_runs_told rules = joined (map (λ rule. run_told rule.number rule.task) rules)

-- the first `run` of each place of an activity, in source order
abbrev pub runs_told : List NumberedTransition → List RunAt
runs_told rules = one_a_place (all_runs_told rules)

-- ---- flags and marks, where numbers of nodes have these words

-- whether the rule asks for a flag
abbrev pub asks_flag : Condition → Bool
asks_flag Flagged = true
asks_flag (Rested slot) = false
asks_flag (RestedIn slots) = false
asks_flag (Ended age needed) = false

-- the local for the flag of a node that waits by one
abbrev pub flag_told : (ℕ → Text) → NumberedTransition → List CLocal
flag_told word rule = if asks_flag rule.condition then scalar_local OfBool (flag_name (with_word word rule.number)) ∷ [] else []

-- the local for the flag of an optional node
abbrev pub flag_where : (ℕ → Text) → Option NumberedTransition → List CLocal
flag_where word (Some rule) = flag_told word rule
flag_where word None = []

-- the local for the flag of the first node of a block, which has nodes by their positions
abbrev pub first_flag_told : (ℕ → Text) → List NumberedTransition → List ℕ → List CLocal
first_flag_told word rules [] = []
first_flag_told word rules (k ∷ block) = flag_where word (slice_get rules k)

-- the locals for the flags of the first nodes of blocks
abbrev pub flags_told : (ℕ → Text) → List NumberedTransition → List (List ℕ) → List CLocal
flags_told word rules [] = []
flags_told word rules (block ∷ rest) = first_flag_told word rules block ++ flags_told word rules rest

-- the local for a mark that a change sets
abbrev pub mark_told : (ℕ → Text) → Change → List CLocal
mark_told word (SetFlag k) = []
mark_told word (SetCounter slot) = []
mark_told word (ClearCounter k) = []
mark_told word (ClearBoth k) = []
mark_told word (SetMark k) = scalar_local OfBool (mark_name (with_word word k)) ∷ []
mark_told word (EndWhen start surface depth) = []
mark_told word Finish = []

-- the locals for the marks that a rule sets
abbrev pub rule_marks_told : (ℕ → Text) → NumberedTransition → List CLocal
rule_marks_told word rule = joined (map (mark_told word) rule.on_true)

-- the locals for the marks that all rules set
abbrev pub marks_told : (ℕ → Text) → List NumberedTransition → List CLocal
marks_told word rules = joined (map (rule_marks_told word) rules)
