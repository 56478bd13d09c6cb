-- How the C of an activity is spelled.
use Rattle.std.specs.Prelude.{◌≡◌, ℕ, pos, ◌<◌, ◌≤◌, ◌^◌, max, Bool, true, ◌&&◌}
use Rattle.std.specs.Prelude.{List, [], ◌∷◌, length, take, Some, nat_eq, nat_le, nat_lt, slice_get}
use Rattle.std.specs.List.{list_all}
use Rattle.bl_tree.specs.declared.tree.StructDef.{StructDef}
use Rattle.bl_tree.specs.declared.tree.Unit.{Unit as UnitDef}
use Rattle.bl_tree.specs.Depths.{arguments_depth, depth_of, expr_depth, target_depth}
use Rattle.bl_tree.specs.Program.{IsWellTyped}
use Rattle.bl_tree.specs.Scalar.{in_range}
use Rattle.bl_tree.specs.Typing.{TypingContext, fits, is_truth, run_fits, type_of}
use Rattle.bl_ctext.specs.Spellable.{has_any, spells_struct}
use Rattle.bl_ctext.specs.inner.Fits.{func_fits}
use Rattle.bl_machine.specs.declared.slots.Slot.{Slot}
use Rattle.bl_graph_nodes.specs.Nodes.{ActAt, Arguments, CheckAt, EnterAt, Node, ResumeAt, TestAt}
use Rattle.bl_machine_pass.specs.Transitions.{Change, Condition, Transition}
use Rattle.bl_machine_pass.specs.Transitions.{ClearsBoth, ClearsCounter, Ended, Flagged, Rested, RestedIn, SetsCounter}
use Rattle.bl_emit_spec.specs.Activities.{Activity, activity_function, activity_view, body_of, callees_in, frame_struct, remembered_struct, rules_at}
use Rattle.bl_emit_spec.specs.Blocks.{Sizes, counter_type}

-- whether 64 bits hold the number of a resting place's counter, and its value is one of the counter's type
abbrev pub slot_fits : Sizes → Slot → Bool
slot_fits sizes slot = nat_lt slot.counter (2 ^ 64) && in_range (counter_type sizes slot.counter) (pos slot.value)

-- whether 64 bits hold the counters in a change, and its values are ones of their counters
abbrev pub change_fits : Sizes → Change → Bool
change_fits sizes (SetsCounter slot) = slot_fits sizes slot
change_fits sizes (ClearsCounter k) = nat_lt k (2 ^ 64)
change_fits sizes (ClearsBoth k) = nat_lt k (2 ^ 64)
change_fits sizes change = true

-- whether 64 bits hold the counter of these resting places, which is one, and their values are ones of it
abbrev pub slots_fit : Sizes → List Slot → Bool
slots_fit sizes [] = true
slots_fit sizes (slot ∷ rest) =
    list_all (slot_fits sizes) (slot ∷ rest) && list_all (λ other. nat_eq other.counter slot.counter) rest

-- whether 64 bits hold and count the counters in a rule's question, and the values are ones of them
abbrev pub condition_fits : Sizes → Condition → Bool
condition_fits sizes Flagged = true
condition_fits sizes (Rested slot) = slot_fits sizes slot
condition_fits sizes (RestedIn slots) = slots_fit sizes slots
condition_fits sizes (Ended age needed) = list_all (slot_fits sizes) needed.slots && nat_le (length needed.slots) (2 ^ 64)

-- whether 64 bits hold the counters in a rule, and the values are ones of them
abbrev pub rule_fits : Sizes → Transition → Bool
rule_fits sizes rule =
    condition_fits sizes rule.condition && (list_all (change_fits sizes) rule.on_true && list_all (change_fits sizes) rule.on_false)

-- whether a `run` of this activity fits where it stands, and is nested at most 200 deep
abbrev pub run_stands : TypingContext → ℕ → Arguments → Bool
run_stands site a arguments =
    run_fits site arguments.target arguments.inputs arguments.outputs (slice_get site.earlier a)
    && nat_le (max (target_depth arguments.target) (arguments_depth arguments.inputs arguments.outputs)) 200

-- whether what is done at a node fits where it stands, and is nested at most 200 deep; of a `run` the number tells the activity that it calls
abbrev pub node_fits : TypingContext → ℕ → Node → Bool
node_fits site a (ActAt l s) = fits site s && nat_le (depth_of s).exprs 200
node_fits site a (TestAt l at e) = is_truth (type_of site e) && nat_le (expr_depth e) 200
node_fits site a (CheckAt l at e) = is_truth (type_of site e) && nat_le (expr_depth e) 200
node_fits site a (EnterAt l at arguments) = run_stands site a arguments
node_fits site a (ResumeAt l at arguments) = run_stands site a arguments
node_fits site a n = true

-- whether all rules and what is done at their nodes fit, each node with the activity that it calls
abbrev pub all_fit : Sizes → TypingContext → List ℕ → List Transition → Bool
all_fit sizes site [] rules = true
all_fit sizes site callees [] = true
all_fit sizes site (a ∷ callees) (rule ∷ rules) =
    (rule_fits sizes rule && node_fits site a rule.node) && all_fit sizes site callees rules

-- the premises for spelling an activity's C: 64 bits hold all its numbers, and what its nodes do fits where it stands
pub record CanSpell (structs : List StructDef) (units : List UnitDef) (k : ℕ) (a : Activity) : Type 0 where
  pub structures : a.structs ≡ structs
  pub earlier : a.earlier ≡ take k units
  pub there : slice_get units k ≡ Some a.unit
  pub variables : length a.unit.vars ≤ 2 ^ 64
  pub counters : length a.sizes ≤ 2 ^ 64
  pub numbers : (n : Node) → (activity_view a).number n < 2 ^ 64
  pub rules : all_fit a.sizes (activity_view a).site (callees_in (body_of a)) (rules_at a) ≡ true

-- the C function of an activity has a spelling, in which no more brackets are open at once than a C text may have
abbrev pub ActivitiesFit : List StructDef → List UnitDef → ℕ → Type 0
ActivitiesFit structs units entry =
    (k : ℕ) (a : Activity) → IsWellTyped structs units entry → CanSpell structs units k a → func_fits 2000 (activity_function a) ≡ true

-- the struct of where an activity rests has a spelling, if it has a member
abbrev pub FramesSpelled : List StructDef → List UnitDef → ℕ → Type 0
FramesSpelled structs units entry =
    (k : ℕ) (a : Activity) → IsWellTyped structs units entry → CanSpell structs units k a → has_any (frame_struct a).members ≡ true →
    spells_struct (frame_struct a) ≡ true

-- the struct of what an activity remembers has a spelling
abbrev pub RememberedSpelled : List StructDef → List UnitDef → ℕ → Type 0
RememberedSpelled structs units entry =
    (k : ℕ) (a : Activity) → IsWellTyped structs units entry → CanSpell structs units k a → list_all spells_struct (remembered_struct a) ≡ true
