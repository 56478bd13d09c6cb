-- A pass turn by turn is executed by rules, where each of its turns can be performed.
use Rattle.std.specs.Prelude.{◌≡◌, ℕ, Bool, false, List, None}
use Rattle.bl_tree.specs.declared.tree.Unit.{Unit as UnitDef}
use Rattle.bl_tree.specs.declared.value.Value.{Value}
use Rattle.bl_graph_nodes.specs.Nodes.{Node}
use Rattle.bl_graph_nodes.specs.Plain.{plain_body}
use Rattle.bl_ctree.specs.Instances.{Setting}
use Rattle.bl_ctree.specs.Store.{Store}
use Rattle.bl_ctree_laws.specs.Pending.{Deed}
use Rattle.bl_ctree_laws.specs.Trees.{Tree, is_nil}
use Rattle.bl_ctree_laws_confluence.specs.Apart.Seen.{InCall}
use Rattle.bl_machine.specs.Uses.{Slots}
use Rattle.bl_machine_laws.specs.Numbers.Turns.{AnsweredDeed, InstancePoint, Turns}
use Rattle.bl_machine_laws.specs.Numbers.Waiting.{Waits}
use Rattle.bl_machine_laws.specs.Passes.Follows.{Fails, Follows, TurnSteps, TurnTraps}
use Rattle.bl_machine_pass.specs.Registers.{Registers}
use Rattle.bl_machine_pass_laws.specs.Turns.Invariant.{PassInvariant}
use Rattle.bl_machine_pass_laws.specs.Turns.Laws.{answer_of}
use Rattle.bl_machine_pass_laws_turns.specs.Turns.{FitsBody, TurnContext}
use Rattle.bl_machine_pass_laws_execution.specs.Frames.{ChangeOnly, CountersMatchTree, Frames}
use Rattle.bl_machine_pass_laws_execution.specs.Fresh.Asks.{Asks}
use Rattle.bl_machine_pass_laws_execution.specs.Fresh.Fresh.{Framed, locals}
use Rattle.bl_machine_pass_laws_execution.specs.Fresh.Senses.{InstanceChanges, Senses}
use Rattle.bl_machine_pass_laws_execution.specs.Executes.{CopiesMatch, Executes, IsPoint, NodeTraps, PassTraps, Performs, deed_at, recopied}
use Rattle.bl_machine_pass_laws_execution.specs.Passes.Standing.{Standing}

-- ---- one turn

-- the deed of a point is that of its node, which is none of a `run`
abbrev pub PointsAreOfNodes : Type 0
PointsAreOfNodes =
    (w : Setting) (i : ℕ) (c : Tree) (d : Bool) (a : Deed) (n : Node) (c' : Tree) → InstancePoint w i c d a n c' → (a ≡ deed_at i n) × IsPoint n

-- rules perform a turn of the node. Afterwards the frames match the calls of the next tree, and the copies hold what it asks for
pub record Performed (w : Setting) (rank : ℕ → Node → ℕ) (slots : ℕ → Slots) (clear : ℕ → Frames → Frames) (i : ℕ)
    (unit : UnitDef) (stood : Bool)
    (frames : Frames) (c : Tree) (store : Store) (copies : List Value) (n : Node) (c' : Tree) (left : Store) : Type 0 where
  pub done : List AnsweredDeed
  pub turn : Turns w rank i c done n c'
  pub inner : Frames
  pub sees : CopiesMatch w i n store copies
  pub performs : Performs w rank slots clear i n frames store (answer_of turn) inner left
  -- frames change inside calls of the instance only
  pub change : ChangeOnly (InCall w i) frames inner
  pub standing : Standing w slots i unit stood inner c'
  pub known : List ℕ
  pub senses : Senses w i unit known left (recopied w i n left copies) c'
  pub leaves : InstanceChanges w i store left

-- rules perform all turns of the instance, and a turn that traps makes them trap at its start
pub record TurnsPerform (w : Setting) (rank : ℕ → Node → ℕ) (slots : ℕ → Slots) (clear : ℕ → Frames → Frames) (i : ℕ)
    (unit : UnitDef)
    (stood : Bool) : Type 0 where
  pub takes : (frames : Frames) (c : Tree) (store : Store) (known : List ℕ) (copies : List Value) (n : Node) (c' : Tree) (left : Store) →
      Standing w slots i unit stood frames c → Senses w i unit known store copies c → TurnSteps w rank i c store n c' left →
      Performed w rank slots clear i unit stood frames c store copies n c' left
  pub breaks : (frames : Frames) (c : Tree) (store : Store) (known : List ℕ) (copies : List Value) (n : Node) →
      Standing w slots i unit stood frames c → Senses w i unit known store copies c → TurnTraps w rank i c store n →
      Waits c None n × (CopiesMatch w i n store copies × NodeTraps w rank slots clear i n frames store)

-- ---- a pass

-- a pass by rules from the number k on leaves this store, and frames that match the tree that is left. Where the body hasn't ended counters do so too
pub record Executed (w : Setting) (rank : ℕ → Node → ℕ) (slots : ℕ → Slots) (clear : ℕ → Frames → Frames) (i k : ℕ)
    (unit : UnitDef) (stood : Bool)
    (frames : Frames) (store : Store) (copies : List Value) (r : Registers) (c' : Tree) (left : Store) : Type 0 where
  pub inner : Frames
  pub registers : Registers
  pub executes : Executes w rank slots clear i k frames store copies r inner left registers
  pub counters : is_nil c' ≡ false → CountersMatchTree (slots i) registers.counters c'
  pub over : registers.over ≡ is_nil c'
  pub change : ChangeOnly (InCall w i) frames inner
  pub stands : FitsBody (slots i) (plain_body unit.body) c'
  pub standing : Standing w slots i unit stood inner c'
  -- the next tree asks only for variables that the body declares
  pub asks : Asks w i unit (locals unit) c'
  pub framed : Framed w left
  pub leaves : InstanceChanges w i store left

-- rules execute what turns lead to, traps included, from registers that satisfy the invariant, where all turns of the instance can be performed
pub record PassesExecute : Type 0 where
  pub follows : (w : Setting) (rank : ℕ → Node → ℕ) (slots : ℕ → Slots) (clear : ℕ → Frames → Frames) (i : ℕ)
      (unit : UnitDef) (stood : Bool)
      (k : ℕ) (frames : Frames) (c : Tree) (store : Store) (known : List ℕ) (copies : List Value) (r : Registers) (c' : Tree) (left : Store) →
      TurnContext w rank i (slots i) unit → TurnsPerform w rank slots clear i unit stood →
      Follows w rank i k c store c' left → FitsBody (slots i) (plain_body unit.body) c → PassInvariant (slots i) (rank i) (plain_body unit.body) k c r →
      Standing w slots i unit stood frames c → Senses w i unit known store copies c →
      Executed w rank slots clear i k unit stood frames store copies r c' left
  pub fails : (w : Setting) (rank : ℕ → Node → ℕ) (slots : ℕ → Slots) (clear : ℕ → Frames → Frames) (i : ℕ) (unit : UnitDef)
      (stood : Bool)
      (k : ℕ) (frames : Frames) (c : Tree) (store : Store) (known : List ℕ) (copies : List Value) (r : Registers) →
      TurnContext w rank i (slots i) unit → TurnsPerform w rank slots clear i unit stood → Fails w rank i k c store →
      FitsBody (slots i) (plain_body unit.body) c → PassInvariant (slots i) (rank i) (plain_body unit.body) k c r →
      Standing w slots i unit stood frames c → Senses w i unit known store copies c → PassTraps w rank slots clear i k frames store copies r
