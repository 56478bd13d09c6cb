-- Where the outputs of what a `run` begins lead.
use Rattle.std.specs.Prelude.{◌≡◌, ◌+◌, ◌<◌, ℕ, List, Some, map, slice_get}
use Rattle.bl_tree.specs.declared.place.Place.{Place}
use Rattle.bl_tree.specs.declared.tree.Path.{Path}
use Rattle.bl_tree.specs.declared.tree.StructDef.{StructDef}
use Rattle.bl_tree.specs.declared.tree.Unit.{Unit as UnitDef}
use Rattle.bl_tree.specs.Program.{IsWellTyped}
use Rattle.bl_tree.specs.Static.{static_of}
use Rattle.bl_graph_nodes.specs.Nodes.{EnterAt, Node, ResumeAt}
use Rattle.bl_graph_nodes.specs.Plain.{plain_body}
use Rattle.bl_ctree.specs.declared.instance.Instance.{Instance}
use Rattle.bl_ctree.specs.declared.instance.Origin.{Origin}
use Rattle.bl_ctree.specs.Instances.{callee_of, setting_of, unit_at}
use Rattle.bl_ctree.specs.Store.{home, whole_of}
use Rattle.bl_ctree_laws_confluence.specs.Apart.Outputs.{RunsWith}
use Rattle.bl_ctree_laws_confluence.specs.Apart.Owned.{SomeIn}
use Rattle.bl_machine.specs.Uses.{Slots}
use Rattle.bl_machine_pass.specs.Transitions.{Transition}
use Rattle.bl_machine_pass_laws_execution.specs.Executes.{HasRule}

-- the outputs of a `run` lead to the paths that it gives: it stands at a place in the body of instance i and begins instance j
pub record OutputsLeadIn (structs : List StructDef) (units : List UnitDef) (entry : ℕ) : Type 0 where
  -- the instance was begun with these outputs
  pub begun : (i j : ℕ) (place : Place) (outputs : List Path) (unit : UnitDef) (instance : Instance) (origin : Origin) →
      let w = setting_of structs units entry in
      unit_at w i ≡ Some unit → SomeIn (RunsWith place outputs) (plain_body unit.body) → callee_of w i place ≡ Some j →
      slice_get w.instances j ≡ Some instance → instance.origin ≡ Some origin → origin.outputs ≡ map static_of outputs
  -- each output of the callee has the home of the caller's path that stands at its number among the outputs of the `run`
  pub homes : (i j k : ℕ) (place : Place) (outputs : List Path) (unit other : UnitDef) (path : Path) → let w = setting_of structs units entry in
      unit_at w i ≡ Some unit → unit_at w j ≡ Some other → SomeIn (RunsWith place outputs) (plain_body unit.body) →
      callee_of w i place ≡ Some j → k < other.outputs → slice_get outputs k ≡ Some path →
      home w (whole_of j (other.inputs + k)) ≡ home w (record { instance = i; path = static_of path })

-- outputs lead to their paths in every typed program
abbrev pub OutputsLead : Type 0
OutputsLead = (structs : List StructDef) (units : List UnitDef) (entry : ℕ) → IsWellTyped structs units entry → OutputsLeadIn structs units entry

-- the node is one of a `run` at the place, with these outputs
abbrev pub IsRunNode : Node → Place → List Path → Type 0
IsRunNode (EnterAt l at arguments) place outputs = (at ≡ place) × (arguments.outputs ≡ outputs)
IsRunNode (ResumeAt l at arguments) place outputs = (at ≡ place) × (arguments.outputs ≡ outputs)
IsRunNode _ place outputs = ⊥

-- the rules of an instance have a node of a `run` only if that `run` stands in the body of its unit
abbrev pub RulesRun : Type 0
RulesRun =
    (slots : ℕ → Slots) (i : ℕ) (unit : UnitDef) (rule : Transition) (place : Place) (outputs : List Path) → HasRule slots i unit rule →
    IsRunNode rule.node place outputs → SomeIn (RunsWith place outputs) (plain_body unit.body)
