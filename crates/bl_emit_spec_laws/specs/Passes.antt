-- What the laws of the parts of a function give, so that its blocks do what a pass by rules does.
use Rattle.std.specs.Prelude.{◌≡◌, ◌⊎◌, ℕ, suc, ◌<◌, Bool, true, false, List, [], ◌∷◌, ◌++◌, Contains, length, map, Some, slice_get}
use Rattle.bl_tree.specs.declared.tree.StructDef.{StructDef}
use Rattle.bl_tree.specs.declared.tree.Unit.{Unit as UnitDef}
use Rattle.bl_tree.specs.declared.value.Value.{Value}
use Rattle.bl_tree.specs.Reduce.{joined}
use Rattle.bl_graph_nodes.specs.Nodes.{Node}
use Rattle.bl_graph_nodes.specs.Plain.{plain_body}
use Rattle.bl_eval.specs.Values.{values_fit}
use Rattle.bl_ctree.specs.Instances.{Setting, setting_of, unit_at}
use Rattle.bl_ctree.specs.Store.{Store}
use Rattle.bl_ctree_laws_typing.specs.Fits.{StoreFits}
use Rattle.bl_machine.specs.declared.machine.Activity.{Activity as InMachine}
use Rattle.bl_machine.specs.Blocks.{goes_straight}
use Rattle.bl_machine_pass.specs.Transitions.{Change, Flagged, SetsFlag, Transition}
use Rattle.bl_machine_pass_laws_execution.specs.Executes.{HasRule, IsPoint, Performs, begun_registers, recopied}
use Rattle.bl_machine_pass_laws.specs.Flags.{MayFlag}
use Rattle.bl_machine_pass_laws_execution.specs.Frames.{Frames}
use Rattle.bl_emit_spec.specs.Activities.{Activity, activity_view, first_rules, picked, turns_in_source}
use Rattle.bl_emit_spec.specs.Blocks.{NodeCode, node_turn}
use Rattle.bl_emit_spec_laws.specs.Calls.Built.{Activities, activity_at, cleared, last_rules, rank_by, registered, slots_by}
use Rattle.bl_emit_spec_laws.specs.Calls.Laws.{BlocksSimulate, CalledAt, CompilationContext, GuardsChoose, PassesSimulate, StartsSimulate}
use Rattle.bl_emit_spec_laws.specs.Within.{PassesStayWithin}

-- ---- where blocks stand

-- the turns of an activity's nodes, block by block
abbrev pub turns_in_blocks : Activity → List (List NodeCode)
turns_in_blocks a = map (picked (turns_in_source a)) a.blocks

-- for each element of a list, whether another one stands before it
abbrev pub behind_first : {X : Type 0} → List X → List Bool
behind_first [] = []
behind_first (x ∷ rest) = false ∷ map (λ y. true) rest

-- for each element of many lists, one after another, whether another one stands before it in its list
abbrev pub behind_firsts : {X : Type 0} → List (List X) → List Bool
behind_firsts [] = []
behind_firsts (xs ∷ rest) = behind_first xs ++ behind_firsts rest

-- the node with the number stands behind another one in its block
abbrev pub IsBehind : Activity → ℕ → Type 0
IsBehind a number = slice_get (behind_firsts (turns_in_blocks a)) number ≡ Some true

-- the turn of a rule's node stands at the number of that node
pub record BlockAt (a : Activity) (unit : UnitDef) (number : ℕ) (rule : Transition) : Type 0 where
  pub u : ℕ
  pub called : CalledAt (plain_body unit.body) rule.node u
  pub turn : slice_get (joined (turns_in_blocks a)) number ≡ Some (node_turn (activity_view a) u rule)

-- a rule whose node has the number
pub record RuleAt (w : Setting) (activities : Activities) (i : ℕ) (unit : UnitDef) (number : ℕ) : Type 0 where
  pub rule : Transition
  pub there : HasRule (slots_by w activities) i unit rule
  pub numbered : rank_by w activities i rule.node ≡ number

-- the rule's node goes straight on with the one that has the next number: its turn sets the flag of that one, and nothing else changes
pub record GoesStraight (number : Node → ℕ) (rule : Transition) : Type 0 where
  pub goes : goes_straight rule.node ≡ true
  pub to : Node
  pub sets : rule.on_true ≡ SetsFlag to ∷ []
  pub next : number to ≡ suc (number rule.node)

-- turns stand in the order of their nodes' numbers, one for each rule, in the function of each instance's activity
pub record BlocksPlaced (structs : List StructDef) (units : List UnitDef) (entry : ℕ) (machine : List InMachine) (activities : Activities) : Type 0 where
  pub of_rule : (i : ℕ) (unit : UnitDef) (rule : Transition) → let w = setting_of structs units entry in
      CompilationContext structs units entry machine activities → unit_at w i ≡ Some unit → HasRule (slots_by w activities) i unit rule →
      BlockAt (activity_at w activities i) unit (rank_by w activities i rule.node) rule
  pub of_number : (i : ℕ) (unit : UnitDef) (number : ℕ) → let w = setting_of structs units entry in
      CompilationContext structs units entry machine activities → unit_at w i ≡ Some unit →
      number < length (joined (turns_in_blocks (activity_at w activities i))) → RuleAt w activities i unit number
  -- a node behind another one in its block waits by its flag
  pub waits : (i : ℕ) (unit : UnitDef) (rule : Transition) → let w = setting_of structs units entry in
      CompilationContext structs units entry machine activities → unit_at w i ≡ Some unit → HasRule (slots_by w activities) i unit rule →
      IsBehind (activity_at w activities i) (rank_by w activities i rule.node) → rule.condition ≡ Flagged
  -- the flag of a node behind another one in its block is set only by the rule of the node before it
  pub before : (i : ℕ) (unit : UnitDef) (rule : Transition) (change : Change) (m : Node) → let w = setting_of structs units entry in
      CompilationContext structs units entry machine activities → unit_at w i ≡ Some unit → HasRule (slots_by w activities) i unit rule →
      Contains rule.on_true change ⊎ Contains rule.on_false change → MayFlag change m →
      IsBehind (activity_at w activities i) (rank_by w activities i m) → rank_by w activities i m ≡ suc (rank_by w activities i rule.node)
  -- the flag of a node behind the first of its block isn't set as a body begins
  pub begins : (i : ℕ) (unit : UnitDef) (number : ℕ) → let w = setting_of structs units entry in
      CompilationContext structs units entry machine activities → unit_at w i ≡ Some unit → IsBehind (activity_at w activities i) number →
      (begun_registers (rank_by w activities) i unit).flags number ≡ false
  -- a node with another one behind it in its block goes straight on with that one
  pub straight : (i : ℕ) (unit : UnitDef) (rule : Transition) → let w = setting_of structs units entry in
      CompilationContext structs units entry machine activities → unit_at w i ≡ Some unit → HasRule (slots_by w activities) i unit rule →
      IsBehind (activity_at w activities i) (suc (rank_by w activities i rule.node)) → GoesStraight (rank_by w activities i) rule
  -- a rule whose node stands behind no other one is that of a block's first node, and one whose node has none behind it that of a block's last node
  pub first : (i : ℕ) (unit : UnitDef) (rule : Transition) → let w = setting_of structs units entry in
      CompilationContext structs units entry machine activities → unit_at w i ≡ Some unit → HasRule (slots_by w activities) i unit rule →
      (IsBehind (activity_at w activities i) (rank_by w activities i rule.node) → ⊥) → Contains (first_rules (activity_at w activities i)) rule
  pub last : (i : ℕ) (unit : UnitDef) (rule : Transition) → let w = setting_of structs units entry in
      CompilationContext structs units entry machine activities → unit_at w i ≡ Some unit → HasRule (slots_by w activities) i unit rule →
      (IsBehind (activity_at w activities i) (suc (rank_by w activities i rule.node)) → ⊥) → Contains (last_rules (activity_at w activities i)) rule
  -- the flag of a node behind the first of its block is no register
  pub free : (i : ℕ) (unit : UnitDef) (number : ℕ) → let w = setting_of structs units entry in
      CompilationContext structs units entry machine activities → unit_at w i ≡ Some unit → IsBehind (activity_at w activities i) number →
      (registered (activity_at w activities i)).flags number ≡ false

-- ---- passes

-- what is done at nodes leaves a store in which all values are of their types, and copies that are
pub record TurnsFit (structs : List StructDef) (units : List UnitDef) (entry : ℕ) (machine : List InMachine) (activities : Activities) : Type 0 where
  pub performs : (i : ℕ) (unit : UnitDef) (rule : Transition) (frames : Frames) (store : Store) (answer : Bool) (frames' : Frames) (left : Store) →
      let w = setting_of structs units entry in
      CompilationContext structs units entry machine activities → unit_at w i ≡ Some unit → HasRule (slots_by w activities) i unit rule → StoreFits w store →
      Performs w (rank_by w activities) (slots_by w activities) (cleared w) i rule.node frames store answer frames' left → StoreFits w left
  pub copies : (i : ℕ) (unit : UnitDef) (n : Node) (left : Store) (copies : List Value) → let w = setting_of structs units entry in
      CompilationContext structs units entry machine activities → unit_at w i ≡ Some unit → StoreFits w left → values_fit structs unit.vars copies ≡ true →
      values_fit structs unit.vars (recopied w i n left copies) ≡ true

-- the blocks of each function simulate a pass by rules, where the blocks of points and of `run`s simulate their nodes, also where a start leaves its call
abbrev pub BlocksPass : Type 0
BlocksPass =
    (structs : List StructDef) (units : List UnitDef) (entry : ℕ) (machine : List InMachine) (activities : Activities) →
    BlocksPlaced structs units entry machine activities → TurnsFit structs units entry machine activities →
    PassesStayWithin structs units entry machine activities →
    BlocksSimulate structs units entry machine activities IsPoint → BlocksSimulate structs units entry machine activities (λ n. IsPoint n → ⊥) →
    StartsSimulate structs units entry machine activities → GuardsChoose structs units entry machine activities →
    PassesSimulate structs units entry machine activities
