-- What the C of each activity of a program is made of, and the registers that its function has.
use Rattle.std.specs.Prelude.{◌≡◌, ℕ, ◌<◌, zero, suc, Bool, true, false, ◌&&◌, ◌||◌, List, [], ◌∷◌, length, take, nat_eq, nat_lt, Option, Some}
use Rattle.std.specs.Prelude.{option_and_then, option_map, slice_get, unwrap_or, if◌then◌else◌}
use Rattle.std.specs.List.{list_any}
use Rattle.bl_tree.specs.declared.place.Place.{Place}
use Rattle.bl_tree.specs.declared.tree.StructDef.{StructDef}
use Rattle.bl_tree.specs.declared.tree.Unit.{Unit as UnitDef}
use Rattle.bl_tree.specs.Reduce.{joined}
use Rattle.bl_tree.specs.Typing.{TypingContext, is_activity}
use Rattle.bl_graph_nodes.specs.Nodes.{Node}
use Rattle.bl_graph_nodes.specs.Plain.{plain_body}
use Rattle.bl_cause.specs.Activities.{graph_position}
use Rattle.bl_ctree.specs.declared.instance.Origin.{Origin}
use Rattle.bl_ctree.specs.Instances.{Setting, callee_of}
use Rattle.bl_ctree.specs.Store.{depth_at}
use Rattle.bl_machine.specs.declared.machine.Activity.{Activity as InMachine}
use Rattle.bl_machine.specs.Uses.{Slots}
use Rattle.bl_machine_pass.specs.Numbered.{sizes_of, slots_of}
use Rattle.bl_machine_pass.specs.Transitions.{Change, SetsMark, Transition}
use Rattle.bl_machine_pass_laws_execution.specs.Frames.{Frames}
use Rattle.bl_emit_spec.specs.Activities.{Activity, activity_view, first_rules, is_flagged, picked, remembers_any, rules_at}
use Rattle.bl_emit_spec.specs.Blocks.{unit_may_end, word_at}
use Rattle.bl_emit_spec.specs.Names.{NumberedWord}
use Rattle.bl_emit_spec_laws.specs.Registers.Registers.{Registered}

-- ---- activities

-- what C is made of, by the position of a unit; of a unit that is a function it says nothing
abbrev pub Activities : Type 0
Activities = ℕ → Activity

-- the position of an instance's unit
abbrev pub unit_number : Setting → ℕ → ℕ
unit_number w i = unwrap_or (option_map (λ instance. instance.unit) (slice_get w.instances i)) 0

-- the activity of an instance, as its C is made
abbrev pub activity_at : Setting → Activities → ℕ → Activity
activity_at w activities i = activities (unit_number w i)

-- the site of an instance's statements: what they see
abbrev pub site_at : Setting → Activities → ℕ → TypingContext
site_at w activities i = (activity_view (activity_at w activities i)).site

-- the numbers of nodes in C
abbrev pub rank_by : Setting → Activities → ℕ → Node → ℕ
rank_by w activities i = (activity_view (activity_at w activities i)).number

-- the position of the unit that an instance runs at a place
abbrev pub callee_unit : Setting → ℕ → Place → ℕ
callee_unit w i at = unwrap_or (option_map (unit_number w) (callee_of w i at)) 0

-- the numbers and words in the C names of `run`s, by their places
abbrev pub run_by : Setting → Activities → ℕ → Place → NumberedWord
run_by w activities i at = word_at (activity_view (activity_at w activities i)) at (callee_unit w i at)

-- the numbers of resting places in C
abbrev pub slots_by : Setting → Activities → ℕ → Slots
slots_by w activities i = (activity_at w activities i).slots

-- what is made of the activity at a position whose part of the machine is this
pub record MadeOf (unit : UnitDef) (a : Activity) (machine : Option InMachine) : Type 0 where
  pub one : InMachine
  pub is : machine ≡ Some one
  pub order : a.order ≡ joined one.blocks
  pub blocks : a.blocks ≡ one.blocks
  pub slots : a.slots ≡ slots_of (plain_body unit.body) one.slots
  pub sizes : a.sizes ≡ sizes_of one.slots

-- each activity of the program is made of its unit, the units before it, and its part of the machine
pub record AreBuilt (structs : List StructDef) (units : List UnitDef) (machine : List InMachine) (activities : Activities) : Type 0 where
  pub structures : (k : ℕ) (unit : UnitDef) → slice_get units k ≡ Some unit → (activities k).structs ≡ structs
  pub earlier : (k : ℕ) (unit : UnitDef) → slice_get units k ≡ Some unit → (activities k).earlier ≡ take k units
  pub unit : (k : ℕ) (unit : UnitDef) → slice_get units k ≡ Some unit → (activities k).unit ≡ unit
  -- the activity is told which of the earlier units remember variables: no function does
  pub remember : (k j : ℕ) (unit other : UnitDef) → slice_get units k ≡ Some unit → slice_get units j ≡ Some other → j < k →
      slice_get (activities k).remember j ≡ Some (is_activity other.kind && remembers_any (activities j))
  pub made : (k : ℕ) (unit : UnitDef) → slice_get units k ≡ Some unit → is_activity unit.kind ≡ true →
      MadeOf unit (activities k) (slice_get machine (graph_position units k))

-- ---- first and last nodes of blocks

-- the last of some positions
abbrev pub last_of : ℕ → List ℕ → ℕ
last_of k [] = k
last_of k (next ∷ rest) = last_of next rest

-- the last positions of blocks, in order
abbrev pub last_positions : List (List ℕ) → List ℕ
last_positions [] = []
last_positions ([] ∷ rest) = last_positions rest
last_positions ((k ∷ block) ∷ rest) = last_of k block ∷ last_positions rest

-- the rules of the nodes that stand last in their blocks, in the order of the blocks
abbrev pub last_rules : Activity → List Transition
last_rules a = picked (rules_at a) (last_positions a.blocks)

-- ---- registers

-- whether a rule asks for the flag of the node with this number
abbrev pub asks_flag : (Node → ℕ) → ℕ → Transition → Bool
asks_flag number k rule = is_flagged rule.condition && nat_eq k (number rule.node)

-- whether a change sets the mark of the node with this number
abbrev pub sets_mark : (Node → ℕ) → ℕ → Change → Bool
sets_mark number k (SetsMark n) = nat_eq k (number n)
sets_mark number k _ = false

-- The registers that the activity's function has: its counters, copies of those that some rule asks for, the flags of blocks' first nodes, and the marks that
-- rules set. Flags and marks have the words of their nodes. Where the body may end, a register tells whether it has
abbrev pub registered : Activity → Registered
registered a = record {
  counters = λ k. nat_lt k (length a.sizes);
  copied = (activity_view a).is_read;
  flags = λ k. list_any (asks_flag (activity_view a).number k) (first_rules a);
  marks = λ k. list_any (λ rule. list_any (sets_mark (activity_view a).number k) rule.on_true) (rules_at a);
  words = (activity_view a).word;
  over = unit_may_end a.unit;
}

-- ---- what the start of a `run` clears

-- where and how an instance was begun
abbrev pub origin_at : Setting → ℕ → Option Origin
origin_at w k = option_and_then (λ instance. instance.origin) (slice_get w.instances k)

-- whether the instance k is j, or one that j calls through so many callers at most
abbrev pub is_under : Setting → ℕ → ℕ → ℕ → Bool
is_under w zero j k = nat_eq k j
is_under w (suc depth) j k = nat_eq k j || unwrap_or (option_map (λ origin. is_under w depth j origin.caller) (origin_at w k)) false

-- the frames once the frame of an instance was cleared, with those of all that it calls
abbrev pub cleared : Setting → ℕ → Frames → Frames
cleared w j frames k c = if is_under w (depth_at w k) j k then 0 else frames k c
