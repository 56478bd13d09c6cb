-- The names in the C of an activity differ where the numbers in them do.
use Rattle.std.specs.Prelude.{◌≡◌, ℕ, ◌^◌, ◌≤◌, Bool, true, not, ◌&&◌, List}
use Rattle.std.specs.Prelude.{[], ◌∷◌, ◌++◌, length, map, nat_eq, nat_lt, if◌then◌else◌}
use Rattle.std.specs.List.{list_any}
use Rattle.bl_tree.specs.Reduce.{joined}
use Rattle.bl_tree.specs.Words.{are_distinct}
use Rattle.bl_graph_nodes.specs.Nodes.{Node}
use Rattle.bl_machine_pass.specs.Transitions.{Change, SetsMark, Transition}
use Rattle.bl_emit_spec.specs.Activities.{Activity, activity_locals, activity_params, activity_view, first_rules, frame_struct, is_flagged, remembered}
use Rattle.bl_emit_spec.specs.Activities.{rules_at, runs_in_body}

-- whether 64 bits hold some numbers, and no two are the same
abbrev pub are_numbers : List ℕ → Bool
are_numbers [] = true
are_numbers (k ∷ rest) = nat_lt k (2 ^ 64) && (not (list_any (nat_eq k) rest) && are_numbers rest)

-- the number of a rule's node, where the rule asks for its flag
abbrev pub flag_number : (Node → ℕ) → Transition → List ℕ
flag_number number rule = if is_flagged rule.condition then number rule.node ∷ [] else []

-- the number of the node whose mark a change sets
abbrev pub mark_number : (Node → ℕ) → Change → List ℕ
mark_number number (SetsMark n) = number n ∷ []
mark_number number change = []

-- the numbers of the nodes whose marks a rule sets
abbrev pub mark_numbers : (Node → ℕ) → Transition → List ℕ
mark_numbers number rule = joined (map (mark_number number) rule.on_true)

-- 64 bits hold the numbers in the names of an activity's C, and those of flags, of marks and of `run`s differ
pub record NumbersDiffer (a : Activity) : Type 0 where
  pub variables : length a.unit.vars ≤ 2 ^ 64
  pub counters : length a.sizes ≤ 2 ^ 64
  pub flags : are_numbers (joined (map (flag_number (activity_view a).number) (first_rules a))) ≡ true
  pub marks : are_numbers (joined (map (mark_numbers (activity_view a).number) (rules_at a))) ≡ true
  pub runs : are_numbers (map (λ run. run.number) (runs_in_body a)) ≡ true

-- no two parameters and locals of the C function of an activity have one name
abbrev pub LocalsDiffer : Type 0
LocalsDiffer =
    (a : Activity) → NumbersDiffer a →
    are_distinct (map (λ p. p.name) (activity_params a) ++ map (λ l. l.name) (activity_locals a)) ≡ true

-- no two members of the struct of where an activity rests have one name
abbrev pub FrameDiffers : Type 0
FrameDiffers = (a : Activity) → NumbersDiffer a → are_distinct (map (λ m. m.name) (frame_struct a).members) ≡ true

-- no two members of the struct of what an activity remembers have one name
abbrev pub MemoryDiffers : Type 0
MemoryDiffers = (a : Activity) → NumbersDiffer a → are_distinct (map (λ m. m.name) (remembered a)) ≡ true
