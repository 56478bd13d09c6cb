-- What holds of the C functions of a program's activities.
use Rattle.std.specs.Prelude.{◌≡◌, ℕ, zero, suc, ◌+◌, ◌<◌, ◌≤◌, ◌^◌, Bool, true, false, ◌||◌, List, [], ◌∷◌, ◌++◌, map, length, Option}
use Rattle.std.specs.Prelude.{is_some, Contains, None, Some, if◌then◌else◌}
use Rattle.std.specs.Prelude.{slice_get}
use Rattle.bl_tree.specs.declared.c.CStmt.{CStmt}
use Rattle.bl_tree.specs.declared.tree.StructDef.{StructDef}
use Rattle.bl_tree.specs.declared.tree.Unit.{Unit as UnitDef}
use Rattle.bl_tree.specs.declared.tree.Var.{Var}
use Rattle.bl_tree.specs.declared.value.Value.{Value}
use Rattle.bl_tree.specs.Program.{IsWellTyped, is_input}
use Rattle.bl_tree.specs.Typing.{TypingContext, is_activity, var_at}
use Rattle.bl_effects.specs.Rules.{Passes}
use Rattle.bl_graph_nodes.specs.Nodes.{Node, nodes_in}
use Rattle.bl_graph_nodes.specs.Plain.{Block, plain_body}
use Rattle.bl_machine_prevs.specs.Declared.{FromText}
use Rattle.bl_eval.specs.Values.{values_fit}
use Rattle.bl_ctext_semantics.specs.Course.{Outcome, goes_on, traps}
use Rattle.bl_ctext_semantics.specs.Meaning.{Meaning, Scope, block_c, function_c}
use Rattle.bl_ctext_semantics.specs.Memory.{Memory, Projection, Root}
use Rattle.bl_ctext_semantics.specs.Tables.{Table}
use Rattle.bl_ctree.specs.Instances.{Setting, setting_of, unit_at}
use Rattle.bl_ctree.specs.Store.{Store, view_at}
use Rattle.bl_ctree_laws_typing.specs.Fits.{StoreFits}
use Rattle.bl_emit_acts.specs.Acts.{c_copied}
use Rattle.bl_emit_acts.specs.Types.{unit_name}
use Rattle.bl_emit_acts.specs.declared.home.Home.TheVariants.{Lent}
use Rattle.bl_emit_acts_laws_simulation.specs.Acts.{lies_in}
use Rattle.bl_emit_acts_laws_simulation.specs.Frames.{is_older, lent_at, remembered_at}
use Rattle.bl_emit_acts_laws_simulation.specs.Encodes.{home_at}
use Rattle.bl_emit_functions_laws_simulation.specs.Calls.{memory_begun, scope_begun}
use Rattle.bl_emit_functions_laws_simulation.specs.Units.{AllAgree, AllNamesSuffice, KnownAt, NoneOverlaps}
use Rattle.bl_emit_spec.specs.Activities.{Activity, activity_function, activity_view, blocks_in_order, body_of, callees_in, copied_in, counters_read}
use Rattle.bl_emit_spec.specs.Activities.{entry_code, first_rules, remembers_any, rested_code}
use Rattle.bl_emit_functions.specs.Trees.{c_if}
use Rattle.bl_emit_spec.specs.Blocks.{ActivityView, entered_by, guard_of, node_code, own_code, unit_may_end}
use Rattle.bl_emit_spec_laws.specs.Registers.Laws.{RegistersWithin, has_left, is_left}
use Rattle.bl_emit_spec_laws.specs.Registers.Registers.{FewRegisters, frame_at, over_at}
use Rattle.bl_machine.specs.declared.machine.Activity.{Activity as InMachine}
use Rattle.bl_machine.specs.Machines.{AreActivitiesOf}
use Rattle.bl_machine_pass.specs.Registers.{Registers, after_rule, is_due}
use Rattle.bl_machine_pass.specs.Transitions.{Transition}
use Rattle.bl_machine_pass_laws_execution.specs.Executes.{CopiesMatch, Executes, HasRule, IsSameRun, NodeTraps, PassTraps, Performs, recopied}
use Rattle.bl_machine_pass_laws_execution.specs.Frames.{Frames}
use Rattle.bl_emit_spec_laws.specs.Calls.Built.{Activities, AreBuilt, activity_at, cleared, last_rules, rank_by, registered, site_at, slots_by, unit_number}
use Rattle.bl_emit_spec_laws.specs.Calls.Calls.{ActivitySimulates, CallAddresses, CallBegins, FramesWithin, MayGive, PassStarts, passed_to}
use Rattle.bl_emit_spec_laws.specs.Calls.Invariant.{FunctionContext, PassRepresents, result_at_c}

-- ---- what is asked of a program

-- a typed program made of a text that passes the rules, with a machine of it, and what C is made of
pub record CompilationContext (structs : List StructDef) (units : List UnitDef) (entry : ℕ) (machine : List InMachine) (activities : Activities) : Type 0 where
  pub well_typed : IsWellTyped structs units entry
  pub passes : Passes units
  pub text : FromText units
  pub agrees : AreActivitiesOf units machine
  pub built : AreBuilt structs units machine activities
  -- names suffice
  pub names : AllNamesSuffice structs units
  pub vars : (unit : UnitDef) → Contains units unit → length unit.vars ≤ 2 ^ 64
  pub nodes : (k : ℕ) (unit : UnitDef) (n : Node) → slice_get units k ≡ Some unit → is_activity unit.kind ≡ true →
      Contains (nodes_in (plain_body unit.body)) n → (activity_view (activities k)).number n < 2 ^ 64
  pub registers : (k : ℕ) (unit : UnitDef) → slice_get units k ≡ Some unit → is_activity unit.kind ≡ true → FewRegisters (registered (activities k))

-- ---- what a part of the function keeps

-- a number of memory that the function of an activity may not write: it lies in none of the places to which its pointers lead, but for the inputs'
pub record PassOutside (site : TypingContext) (unit : UnitDef) (remembers : Bool) (scope : Scope) (root : Root) (way : List Projection) : Type 0 where
  pub frame : lies_in (frame_at scope) root way ≡ false
  pub over : unit_may_end unit ≡ true → lies_in (over_at scope) root way ≡ false
  pub memory : remembers ≡ true → lies_in (remembered_at scope) root way ≡ false
  pub result : is_some unit.result ≡ true → lies_in (result_at_c scope) root way ≡ false
  pub outputs : (k : ℕ) (var : Var) → var_at site k ≡ Some var → home_at site k ≡ Lent → is_input var.role ≡ false →
      lies_in (lent_at scope site.vars k) root way ≡ false

-- memory from before the call is unchanged where the function of an activity may not write
abbrev pub PassKeepsFrame : TypingContext → UnitDef → Bool → Scope → Memory → Memory → Type 0
PassKeepsFrame site unit remembers scope here after =
    (root : Root) (way : List Projection) → is_older scope.depth root ≡ true → PassOutside site unit remembers scope root way →
    after root way ≡ here root way

-- a part of the function goes on, and leaves memory that stands for these
pub record PartSimulates (w : Setting) (activities : Activities) (i : ℕ) (unit : UnitDef) (scope : Scope) (frames : Frames) (store : Store)
    (copies : List Value) (r : Registers) (here : Memory) (o : Outcome Memory) : Type 0 where
  pub ends : o.end ≡ goes_on
  pub stands : PassRepresents w activities i unit scope frames store copies r o.memory
  pub kept : PassKeepsFrame (site_at w activities i) unit (remembers_any (activity_at w activities i)) scope here o.memory

-- ---- the start

-- what stands before the blocks: copies of counters, the flag of the entry, and copies of variables
abbrev pub start_code : Activity → List CStmt
start_code a = map rested_code (counters_read a) ++ (entry_code (activity_view a) (body_of a) ++ map (c_copied (activity_view a).site) (copied_in a))

-- the scope in which a called function of an instance's activity begins
abbrev pub scope_in : Setting → Activities → ℕ → UnitDef → Table Meaning → ℕ → CallAddresses → Scope
scope_in w activities i unit known depth given =
    let a = activity_at w activities i in
    scope_begun known (activity_function a) (depth + 1) (passed_to unit (remembers_any a) given)

-- the memory at the start of a call of an instance's activity
abbrev pub memory_in : Setting → Activities → ℕ → UnitDef → ℕ → CallAddresses → Memory → Memory
memory_in w activities i unit depth given here =
    let a = activity_at w activities i in memory_begun (activity_function a) (depth + 1) (passed_to unit (remembers_any a) given) here

-- each function of an activity begins as a pass begins, where the functions before it are known to do what they do in the program
abbrev pub FunctionsBegin : List StructDef → List UnitDef → ℕ → List InMachine → Activities → Type 0
FunctionsBegin structs units entry machine activities =
    let w = setting_of structs units entry in
    (i : ℕ) (unit : UnitDef) (known : Table Meaning) (depth : ℕ) (given : CallAddresses) (frames : Frames) (store : Store) (r : Registers) (here : Memory) →
    CompilationContext structs units entry machine activities → unit_at w i ≡ Some unit →
    MayGive unit (remembers_any (activity_at w activities i)) depth given → CallBegins w activities i unit depth given frames store here →
    PassStarts w activities i unit frames r →
    AllAgree structs units (unit_number w i) (scope_in w activities i unit known depth given) →
    ((u : ℕ) → u < unit_number w i → ActivitySimulates w activities u known (depth + 1)) →
    FunctionContext structs units w activities i unit (scope_in w activities i unit known depth given)
    × PartSimulates w activities i unit (scope_in w activities i unit known depth given) frames store (view_at w store i).now r
    (memory_in w activities i unit depth given here)
    (block_c (start_code (activity_at w activities i)) (scope_in w activities i unit known depth given) (memory_in w activities i unit depth given here))

-- ---- blocks

-- the node of the body calls the activity at the position u, where it is one of a `run`; u is 0 where it is none
pub record CalledAt (body : Block) (n : Node) (u : ℕ) : Type 0 where
  pub position : ℕ
  pub node : slice_get (nodes_in body) position ≡ Some n
  pub unit : slice_get (callees_in body) position ≡ Some u

-- an `if` by the guard of a rule. The number is that of the flag of the block before, where that leaves its call to this one
abbrev pub guarded_by_rule : ActivityView → Option ℕ → Transition → List CStmt → CStmt
guarded_by_rule view before rule code = c_if (entered_by view.word before (guard_of view rule.node rule.condition)) code None

-- a rule as the C of its block has it: without its changes, where another node stands behind its own in the block
abbrev pub shown_rule : Bool → Transition → Transition
shown_rule last rule = record {
  node = rule.node;
  condition = rule.condition;
  on_true = if last then rule.on_true else [];
  on_false = if last then rule.on_false else [];
}

-- a rule of the instance's activity, as the C of its block has it
pub record HasShownRule (w : Setting) (activities : Activities) (i : ℕ) (unit : UnitDef) (shown : Transition) : Type 0 where
  pub rule : Transition
  pub there : HasRule (slots_by w activities) i unit rule
  pub last : Bool
  pub is : shown ≡ shown_rule last rule
  pub stands_last : last ≡ true → Contains (last_rules (activity_at w activities i)) rule

-- the outcome of what one node does in its turn
abbrev pub block_done : Setting → Activities → ℕ → ℕ → Transition → Scope → Memory → Outcome Memory
block_done w activities i u rule scope here =
    block_c (node_code (activity_view (activity_at w activities i)) u rule rule.node) scope here

-- the function of an instance stands in the middle of its pass
pub record Midway (structs : List StructDef) (units : List UnitDef) (entry : ℕ) (machine : List InMachine) (activities : Activities) (i : ℕ)
    (unit : UnitDef) (scope : Scope) (frames : Frames) (store : Store) (copies : List Value) (r : Registers) (here : Memory) : Type 0 where
  pub compiled : CompilationContext structs units entry machine activities
  pub is_there : unit_at (setting_of structs units entry) i ≡ Some unit
  pub function : FunctionContext structs units (setting_of structs units entry) activities i unit scope
  pub stands : PassRepresents (setting_of structs units entry) activities i unit scope frames store copies r here
  pub fits : StoreFits (setting_of structs units entry) store
  pub copies_fit : values_fit structs unit.vars copies ≡ true
  -- no counter holds more than its greatest value, nor did one as the tick began
  pub frames_within : FramesWithin (setting_of structs units entry) activities frames
  pub within : RegistersWithin (activity_at (setting_of structs units entry) activities i).sizes r

-- What the C of a node among these does, by the rule as its block has it. Where what is to be done there is done it goes on, and leaves memory that stands
-- for what is left; where that traps it traps
pub record BlocksSimulate (structs : List StructDef) (units : List UnitDef) (entry : ℕ) (machine : List InMachine) (activities : Activities)
    (These : Node → Type 0) : Type 0 where
  pub acts : (i : ℕ) (unit : UnitDef) (scope : Scope) (frames : Frames) (store : Store) (copies : List Value) (r : Registers) (rule : Transition) (u : ℕ)
      (answer : Bool) (frames' : Frames) (left : Store) (here : Memory) → let w = setting_of structs units entry in
      Midway structs units entry machine activities i unit scope frames store copies r here → HasShownRule w activities i unit rule →
      These rule.node → CalledAt (plain_body unit.body) rule.node u →
      CopiesMatch w i rule.node store copies →
      Performs w (rank_by w activities) (slots_by w activities) (cleared w) i rule.node frames store answer frames' left →
      PartSimulates w activities i unit scope frames' left (recopied w i rule.node left copies) (after_rule (rank_by w activities i) rule answer r) here
      (block_done w activities i u rule scope here)
  pub stops : (i : ℕ) (unit : UnitDef) (scope : Scope) (frames : Frames) (store : Store) (copies : List Value) (r : Registers) (rule : Transition) (u : ℕ)
      (here : Memory) → let w = setting_of structs units entry in
      Midway structs units entry machine activities i unit scope frames store copies r here → HasShownRule w activities i unit rule →
      These rule.node → CalledAt (plain_body unit.body) rule.node u →
      CopiesMatch w i rule.node store copies → NodeTraps w (rank_by w activities) (slots_by w activities) (cleared w) i rule.node frames store →
      (block_done w activities i u rule scope here).end ≡ traps

-- The own code of a start that leaves its call to the next block goes on. It leaves memory of the same pass behind the start's changes, over some frames
pub record CallIsLeft (structs : List StructDef) (units : List UnitDef) (entry : ℕ) (machine : List InMachine) (activities : Activities) (i : ℕ)
    (unit : UnitDef) (scope : Scope) (store : Store) (copies : List Value) (r : Registers) (here : Memory) (o : Outcome Memory) : Type 0 where
  pub ends : o.end ≡ goes_on
  pub frames : Frames
  pub stands : Midway structs units entry machine activities i unit scope frames store copies r o.memory
  pub kept : PassKeepsFrame (site_at (setting_of structs units entry) activities i) unit
      (remembers_any (activity_at (setting_of structs units entry) activities i)) scope here o.memory

-- the outcome of what a node does itself
abbrev pub own_done : Setting → Activities → ℕ → ℕ → Transition → Scope → Memory → Outcome Memory
own_done w activities i u rule scope here =
    block_c (own_code (activity_view (activity_at w activities i)) u rule rule.node) scope here

-- What the C of a `run` does whose start leaves its call to the next block. The start's own code goes on. Then the code of the node that goes on with the
-- `run` does what is to be done at the start, and traps where that traps
pub record StartsSimulate (structs : List StructDef) (units : List UnitDef) (entry : ℕ) (machine : List InMachine) (activities : Activities) : Type 0 where
  pub acts : (i : ℕ) (unit : UnitDef) (scope : Scope) (frames : Frames) (store : Store) (copies : List Value) (r : Registers) (rule other : Transition)
      (u v : ℕ) (answer : Bool) (frames' : Frames) (left : Store) (here : Memory) → let w = setting_of structs units entry in
      Midway structs units entry machine activities i unit scope frames store copies r here → HasShownRule w activities i unit rule →
      HasShownRule w activities i unit other → IsSameRun rule.node other.node → CalledAt (plain_body unit.body) rule.node u →
      CalledAt (plain_body unit.body) other.node v → CopiesMatch w i rule.node store copies →
      Performs w (rank_by w activities) (slots_by w activities) (cleared w) i rule.node frames store answer frames' left →
      let own = own_done w activities i u rule scope here in
      let after = after_rule (rank_by w activities i) rule answer r in
      CallIsLeft structs units entry machine activities i unit scope store copies after here own
      × PartSimulates w activities i unit scope frames' left (recopied w i rule.node left copies) after own.memory
      (block_done w activities i v other scope own.memory)
  pub stops : (i : ℕ) (unit : UnitDef) (scope : Scope) (frames : Frames) (store : Store) (copies : List Value) (r : Registers) (rule other : Transition)
      (u v : ℕ) (here : Memory) → let w = setting_of structs units entry in
      Midway structs units entry machine activities i unit scope frames store copies r here → HasShownRule w activities i unit rule →
      HasShownRule w activities i unit other → IsSameRun rule.node other.node → CalledAt (plain_body unit.body) rule.node u →
      CalledAt (plain_body unit.body) other.node v → CopiesMatch w i rule.node store copies →
      NodeTraps w (rank_by w activities) (slots_by w activities) (cleared w) i rule.node frames store →
      let own = own_done w activities i u rule scope here in
      CallIsLeft structs units entry machine activities i unit scope store copies (after_rule (rank_by w activities i) rule true r) here own
      × ((block_done w activities i v other scope own.memory).end ≡ traps)

-- An `if` by the guard of the rule of a block's first node. It does what stands in it iff the rule is due or the block before has left its call, and else
-- nothing
pub record GuardsChoose (structs : List StructDef) (units : List UnitDef) (entry : ℕ) (machine : List InMachine) (activities : Activities) : Type 0 where
  pub enters : (i : ℕ) (unit : UnitDef) (scope : Scope) (frames : Frames) (store : Store) (copies : List Value) (r : Registers) (before : Option ℕ)
      (rule : Transition) (code : List CStmt) (here : Memory) → let w = setting_of structs units entry in
      Midway structs units entry machine activities i unit scope frames store copies r here → HasRule (slots_by w activities) i unit rule →
      Contains (first_rules (activity_at w activities i)) rule → has_left (registered (activity_at w activities i)) before ≡ true →
      (is_left r before || is_due (rank_by w activities i) rule r) ≡ true →
      let o = block_c (guarded_by_rule (activity_view (activity_at w activities i)) before rule code ∷ []) scope here in
      (o.end ≡ (block_c code scope here).end) × (o.memory ≡ (block_c code scope here).memory)
  pub skips : (i : ℕ) (unit : UnitDef) (scope : Scope) (frames : Frames) (store : Store) (copies : List Value) (r : Registers) (before : Option ℕ)
      (rule : Transition) (code : List CStmt) (here : Memory) → let w = setting_of structs units entry in
      Midway structs units entry machine activities i unit scope frames store copies r here → HasRule (slots_by w activities) i unit rule →
      Contains (first_rules (activity_at w activities i)) rule → has_left (registered (activity_at w activities i)) before ≡ true →
      (is_left r before || is_due (rank_by w activities i) rule r) ≡ false →
      let o = block_c (guarded_by_rule (activity_view (activity_at w activities i)) before rule code ∷ []) scope here in
      (o.end ≡ goes_on) × (o.memory ≡ here)

-- ---- the whole pass

-- the blocks of the function simulate a pass by rules from its start, traps included
pub record PassesSimulate (structs : List StructDef) (units : List UnitDef) (entry : ℕ) (machine : List InMachine) (activities : Activities) : Type 0 where
  pub executes : (i : ℕ) (unit : UnitDef) (scope : Scope) (frames : Frames) (store : Store) (copies : List Value) (r : Registers)
      (frames' : Frames) (left : Store) (r' : Registers) (here : Memory) → let w = setting_of structs units entry in
      Midway structs units entry machine activities i unit scope frames store copies r here → PassStarts w activities i unit frames r →
      Executes w (rank_by w activities) (slots_by w activities) (cleared w) i 0 frames store copies r frames' left r' →
      (copies' : List Value)
      × PartSimulates w activities i unit scope frames' left copies' r' here (block_c (blocks_in_order (activity_at w activities i)) scope here)
  pub cut : (i : ℕ) (unit : UnitDef) (scope : Scope) (frames : Frames) (store : Store) (copies : List Value) (r : Registers) (here : Memory) →
      let w = setting_of structs units entry in
      Midway structs units entry machine activities i unit scope frames store copies r here → PassStarts w activities i unit frames r →
      PassTraps w (rank_by w activities) (slots_by w activities) (cleared w) i 0 frames store copies r →
      (block_c (blocks_in_order (activity_at w activities i)) scope here).end ≡ traps

-- ---- the functions of all activities

-- the table has the C function of the activity at a position under its name. That function runs over a table with the property
abbrev pub ActivityKnown : Activities → List UnitDef → ℕ → (Table Meaning → Type 0) → Table Meaning → Type 0
ActivityKnown activities units k Below known =
    (unit : UnitDef) → slice_get units k ≡ Some unit → is_activity unit.kind ≡ true → (below : Table Meaning)
    × (known (unit_name unit.name) ≡ Some (function_c below (activity_function (activities k)))) × Below below

-- a table that knows the C functions of all functions and of all activities before a position, each of which sees those before it
abbrev pub AllKnownUpTo : List StructDef → List UnitDef → Activities → ℕ → Table Meaning → Type 0
AllKnownUpTo structs units activities zero known = Unit {0}
AllKnownUpTo structs units activities (suc k) known =
    AllKnownUpTo structs units activities k known × (KnownAt structs units k (AllKnownUpTo structs units activities k) known
    × ActivityKnown activities units k (AllKnownUpTo structs units activities k) known)

-- the C function of each activity simulates the passes of its instances, wherever it is known, at any depth of calls
abbrev pub ActivitiesSimulate : List StructDef → List UnitDef → ℕ → List InMachine → Activities → Type 0
ActivitiesSimulate structs units entry machine activities =
    (k u : ℕ) (known : Table Meaning) (depth : ℕ) → CompilationContext structs units entry machine activities → NoneOverlaps units →
    AllKnownUpTo structs units activities k known → u < k → ActivitySimulates (setting_of structs units entry) activities u known depth
