-- How often a tick passes through the bodies of a program's units.
use Rattle.std.specs.Prelude.{◌≡◌, ℕ, ℤ, ◌≤◌, ◌*◌, Bool, List, map, length, Contains, Some, slice_get, option_map, unwrap_or}
use Rattle.bl_tree.specs.declared.tree.StructDef.{StructDef}
use Rattle.bl_tree.specs.declared.tree.Unit.{Unit as UnitDef}
use Rattle.bl_tree.specs.Program.{IsWellTyped}
use Rattle.bl_tree.specs.Reduce.{total}
use Rattle.bl_effects.specs.Rules.{Passes}
use Rattle.bl_graph_nodes.specs.Nodes.{Node, nodes_in}
use Rattle.bl_graph_nodes.specs.Plain.{plain_body}
use Rattle.bl_graph_nodes.specs.Steps.{Gives, Here, Inside, StepLabel, leaf_of}
use Rattle.bl_ctree.specs.Control.{Control, woken}
use Rattle.bl_ctree.specs.Instances.{Setting, setting_of}
use Rattle.bl_ctree.specs.Measure.{passes, step_statements_of, steps}
use Rattle.bl_ctree.specs.Reaches.{Reaches}
use Rattle.bl_ctree.specs.Store.{Store}
use Rattle.bl_ctree_laws.specs.Bridge.{plain_tree}
use Rattle.bl_ctree_laws.specs.Ends.{PlainTreeEnd, PlainTreeSteps, Rests}
use Rattle.bl_ctree_laws.specs.Pending.{Deed}
use Rattle.bl_ctree_laws.specs.Steps.{Anyway, Moves}
use Rattle.bl_ctree_laws.specs.Trees.{Tree}
use Rattle.bl_ctree_laws_traces.specs.Bounded.Differ.{AllNumbered}

-- ---- passes

-- a pass through the body of a unit, as the tick's steps come to it
pub data Pass : Type 0 where
  -- a pass through the body of the unit with this number
  Through : ℕ → Pass
  -- a pass inside the unit with this number, which the `run` with this node calls
  Below : Node → ℕ → Pass → Pass

-- the unit whose body is passed
abbrev pub unit_of_pass : Pass → ℕ
unit_of_pass (Through k) = k
unit_of_pass (Below n unit pass) = unit_of_pass pass

-- the pass to which a step belongs, in a tree of the unit with this number
abbrev pub pass_of : ℕ → StepLabel → Pass
pass_of k (Here n) = Through k
pass_of k (Gives n) = Through k
pass_of k (Inside n unit step) = Below n unit (pass_of unit step)

-- a step of the pass, where the step inside the passed body is given
abbrev pub step_in : Pass → StepLabel → StepLabel
step_in (Through k) step = step
step_in (Below n unit pass) step = Inside n unit (step_in pass step)

-- the pass of the step is in the list, and the node that acts is one of the passed body
pub record IsOfPass (w : Setting) (entry : ℕ) (all : List Pass) (n : StepLabel) : Type 0 where
  pub is_there : Contains all (pass_of entry n)
  pub unit : UnitDef
  pub found : slice_get w.units (unit_of_pass (pass_of entry n)) ≡ Some unit
  pub node : Contains (nodes_in (plain_body unit.body)) (leaf_of n)

-- ---- the passes of a tick

-- the statements of an instance's unit
abbrev pub statements_at : Setting → ℕ → ℕ
statements_at w k = unwrap_or (option_map step_statements_of (slice_get w.units k)) 0

-- how many statements a tick passes at most: those of each instance, once for each pass of it
abbrev pub passed_statements : Setting → ℕ
passed_statements w = total (map (λ x. passes w x.depth x * statements_at w x.unit) w.instances)

-- the passes of a tick that begins with this tree, the entry's unit having the number
pub record TickPasses (w : Setting) (entry : ℕ) (c : Tree) : Type 0 where
  pub all : List Pass
  -- each step that could be taken after any steps of the tick belongs to one of the passes
  pub each : (store : Store) (labels : List StepLabel) (after : Tree) (later : Store) → PlainTreeSteps w c store labels (Rests after later) →
      (d : Bool) (a : Deed) (n : StepLabel) (c' : Tree) → Moves Anyway w 0 after d a n c' → IsOfPass w entry all n
  -- units are passed no more often than their instances may be, whatever the weight of a unit
  pub few : (weight : ℕ → ℕ) → total (map (λ pass. weight (unit_of_pass pass)) all) ≤ total (map (λ x. passes w x.depth x * weight x.unit) w.instances)

-- ---- laws

-- every tick of an accepted program has passes to which its steps belong, and these are few
abbrev pub TicksHavePasses : Type 0
TicksHavePasses =
    (structs : List StructDef) (units : List UnitDef) (entry : ℕ) → IsWellTyped structs units entry → Passes units →
    (rows : List (List ℤ)) (c : Control) (store : Store) → Reaches (setting_of structs units entry) rows c store →
    TickPasses (setting_of structs units entry) entry (plain_tree (woken c))

-- where nodes are numbered, a list of steps of a tick has at most five for each statement passed, from whatever store
abbrev pub TickStepsAreFew : Type 0
TickStepsAreFew =
    (structs : List StructDef) (units : List UnitDef) (entry : ℕ) → IsWellTyped structs units entry → Passes units →
    AllNumbered (setting_of structs units entry) →
    (rows : List (List ℤ)) (c : Control) (store : Store) → Reaches (setting_of structs units entry) rows c store →
    (first : Store) (labels : List StepLabel) (end : PlainTreeEnd) → PlainTreeSteps (setting_of structs units entry) (plain_tree (woken c)) first labels end →
    length labels ≤ 5 * passed_statements (setting_of structs units entry)

-- the number of steps of a program is six for each statement passed
abbrev pub StepsAreSixEach : Type 0
StepsAreSixEach =
    (structs : List StructDef) (units : List UnitDef) (entry : ℕ) → steps structs units entry ≡ 6 * passed_statements (setting_of structs units entry)
