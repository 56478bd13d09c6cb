-- Ticks of an instance made by rules, from the frames that the tick before left.
use Rattle.std.specs.Prelude.{◌≡◌, ℕ, false, List, Some}
use Rattle.bl_tree.specs.declared.tree.StructDef.{StructDef}
use Rattle.bl_tree.specs.declared.tree.Unit.{Unit as UnitDef}
use Rattle.bl_tree.specs.Program.{IsWellTyped}
use Rattle.bl_effects.specs.Rules.{Passes}
use Rattle.bl_graph_nodes.specs.Nodes.{Node}
use Rattle.bl_graph_nodes.specs.Plain.{plain_body}
use Rattle.bl_machine_prevs.specs.Declared.{FromText}
use Rattle.bl_ctree.specs.Instances.{Setting, setting_of, unit_at}
use Rattle.bl_ctree.specs.Store.{Store, view_at}
use Rattle.bl_ctree_laws.specs.Trees.{Tree, do_block, is_nil, woken}
use Rattle.bl_machine.specs.Uses.{Slots}
use Rattle.bl_machine_laws.specs.Passes.Follows.{Fails, Follows}
use Rattle.bl_machine_pass.specs.Registers.{Registers, with_at}
use Rattle.bl_machine_pass_laws_execution.specs.Frames.{Frames, FramesMatchTree}
use Rattle.bl_machine_pass_laws_execution.specs.Fresh.Asks.{Asks}
use Rattle.bl_machine_pass_laws_execution.specs.Fresh.Fresh.{Framed, Fresh, locals}
use Rattle.bl_machine_pass_laws_execution.specs.Executes.{ClearsInside, Executes, PassTraps, begun_registers, resumed_registers}
use Rattle.bl_machine_pass_laws_execution.specs.Passes.Standing.{CallsRest, Rested, RunsApart}
use Rattle.bl_machine_pass_laws_execution.specs.Performs.{AllInContext}

-- between two ticks: the tree of an instance of the unit, with the frames of the instance and of all that is called
pub record Resting (w : Setting) (slots : ℕ → Slots) (i : ℕ) (unit : UnitDef) (frames : Frames) (c : Tree) : Type 0 where
  pub rested : Rested w slots i unit c
  pub holds : FramesMatchTree slots frames i c
  pub rests : CallsRest w slots c
  pub apart : RunsApart c
  -- the tree asks only for variables that its body declares
  pub asks : Asks w i unit (locals unit) c

-- a pass by rules that leaves this store, and frames for the next tick where the body hasn't ended
pub record TickExecuted (w : Setting) (rank : ℕ → Node → ℕ) (slots : ℕ → Slots) (clear : ℕ → Frames → Frames) (i : ℕ)
    (unit : UnitDef)
    (frames : Frames) (store : Store) (r : Registers) (c' : Tree) (left : Store) : Type 0 where
  pub inner : Frames
  pub registers : Registers
  pub executes : Executes w rank slots clear i 0 frames store (view_at w store i).now r inner left registers
  pub over : registers.over ≡ is_nil c'
  pub rests : is_nil c' ≡ false → Resting w slots i unit (with_at i registers.counters inner) c'
  pub framed : Framed w left

-- passes by rules execute what turns lead to, in first and later ticks, in a program that is made of a source text and passes the rules. Each frame of the
-- store has a value for each variable. In a later tick, values before the tick equal the current ones
pub record TicksExecute : Type 0 where
  pub begins : (structs : List StructDef) (units : List UnitDef) (entry : ℕ) (rank : ℕ → Node → ℕ) (slots : ℕ → Slots)
      (clear : ℕ → Frames → Frames) (i : ℕ) (unit : UnitDef) (frames : Frames) (store : Store) (c' : Tree) (left : Store) →
      let w = setting_of structs units entry in
      IsWellTyped structs units entry → Passes units → FromText units → AllInContext w rank slots → ClearsInside w clear → unit_at w i
      ≡ Some unit →
      Framed w store → Follows w rank i 0 (do_block (plain_body unit.body)) store c' left →
      TickExecuted w rank slots clear i unit frames store (begun_registers rank i unit) c' left
  pub resumes : (structs : List StructDef) (units : List UnitDef) (entry : ℕ) (rank : ℕ → Node → ℕ) (slots : ℕ → Slots)
      (clear : ℕ → Frames → Frames) (i : ℕ) (unit : UnitDef) (frames : Frames) (c : Tree) (store : Store) (c' : Tree) (left : Store) →
      let w = setting_of structs units entry in
      IsWellTyped structs units entry → Passes units → FromText units → AllInContext w rank slots → ClearsInside w clear → unit_at w i
      ≡ Some unit →
      Framed w store → ((j : ℕ) → Fresh w store j) → Resting w slots i unit frames c → Follows w rank i 0 (woken c) store c' left →
      TickExecuted w rank slots clear i unit frames store (resumed_registers frames i) c' left
  -- the first counter of an instance that goes on isn't 0
  pub counts : (structs : List StructDef) (units : List UnitDef) (entry : ℕ) (rank : ℕ → Node → ℕ) (slots : ℕ → Slots) (i : ℕ)
      (unit : UnitDef)
      (frames : Frames) (c : Tree) → let w = setting_of structs units entry in
      AllInContext w rank slots → unit_at w i ≡ Some unit → Resting w slots i unit frames c → frames i 0 ≡ 0 → ⊥
  -- rules trap where turns lead to a trap
  pub begun_fails : (structs : List StructDef) (units : List UnitDef) (entry : ℕ) (rank : ℕ → Node → ℕ) (slots : ℕ → Slots)
      (clear : ℕ → Frames → Frames) (i : ℕ) (unit : UnitDef) (frames : Frames) (store : Store) →
      let w = setting_of structs units entry in
      IsWellTyped structs units entry → Passes units → FromText units → AllInContext w rank slots → ClearsInside w clear → unit_at w i
      ≡ Some unit →
      Framed w store → Fails w rank i 0 (do_block (plain_body unit.body)) store →
      PassTraps w rank slots clear i 0 frames store (view_at w store i).now (begun_registers rank i unit)
  pub resumed_fails : (structs : List StructDef) (units : List UnitDef) (entry : ℕ) (rank : ℕ → Node → ℕ) (slots : ℕ → Slots)
      (clear : ℕ → Frames → Frames) (i : ℕ) (unit : UnitDef) (frames : Frames) (c : Tree) (store : Store) →
      let w = setting_of structs units entry in
      IsWellTyped structs units entry → Passes units → FromText units → AllInContext w rank slots → ClearsInside w clear → unit_at w i
      ≡ Some unit →
      Framed w store → ((j : ℕ) → Fresh w store j) → Resting w slots i unit frames c → Fails w rank i 0 (woken c) store →
      PassTraps w rank slots clear i 0 frames store (view_at w store i).now (resumed_registers frames i)
