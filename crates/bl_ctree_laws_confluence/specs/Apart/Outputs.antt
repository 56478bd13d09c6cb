-- Calls in trees that runs reach stand as their `run` statements do, with the outputs that their instances were begun with.
use Rattle.std.specs.Prelude.{◌≡◌, ℕ, Bool, List, map, Some}
use Rattle.bl_tree.specs.declared.place.Place.{Place}
use Rattle.bl_tree.specs.declared.tree.Path.{Path}
use Rattle.bl_tree.specs.declared.tree.StructDef.{StructDef}
use Rattle.bl_tree.specs.declared.tree.Unit.{Unit as UnitDef}
use Rattle.bl_tree.specs.Program.{IsWellTyped}
use Rattle.bl_tree.specs.Static.{static_of}
use Rattle.bl_graph_nodes.specs.Plain.{Block, Bodies, Plain, plain_body}
use Rattle.bl_ctree.specs.Instances.{Setting, callee_of, setting_of, unit_at}
use Rattle.bl_ctree_laws.specs.Residual.{PlainResidual}
use Rattle.bl_ctree_laws.specs.Trees.{Tree}
use Rattle.bl_ctree_laws_confluence.specs.Apart.Owned.{IsRunWith, SomeIn, SomeInEach}
use Rattle.bl_ctree_laws_confluence.specs.Apart.Seen.{CallsMatchCallees, HasOutputs}

-- the statement is a `run` at this place with these outputs
abbrev pub RunsWith : Place → List Path → Plain → Type 0
RunsWith place outputs = IsRunWith (λ at paths. (at ≡ place) × (paths ≡ outputs))

-- each `run` of the body, which stands in the instance, has the outputs that the instance which it begins was begun with
abbrev pub RunsHaveOutputs : Setting → ℕ → Block → Type 0
RunsHaveOutputs w i body =
    (place : Place) (outputs : List Path) (callee : ℕ) → SomeIn (RunsWith place outputs) body → callee_of w i place ≡ Some callee →
    HasOutputs w callee (map static_of outputs)

-- each `run` in the branches has the outputs of the instance that it begins
abbrev pub BranchesHaveOutputs : Setting → ℕ → Bodies → Type 0
BranchesHaveOutputs w i bodies =
    (place : Place) (outputs : List Path) (callee : ℕ) → SomeInEach (RunsWith place outputs) bodies → callee_of w i place ≡ Some callee →
    HasOutputs w callee (map static_of outputs)

-- in a typed program each `run` of a unit with an instance has the outputs of the instance that it begins
abbrev pub TypedRunsHaveOutputs : Type 0
TypedRunsHaveOutputs =
    (structs : List StructDef) (units : List UnitDef) (entry i : ℕ) (unit : UnitDef) → IsWellTyped structs units entry →
    unit_at (setting_of structs units entry) i ≡ Some unit → RunsHaveOutputs (setting_of structs units entry) i (plain_body unit.body)

-- calls in residuals of a body whose `run`s have their instances' outputs match their callees
abbrev pub ResidualCallsMatch : Type 0
ResidualCallsMatch =
    (structs : List StructDef) (units : List UnitDef) (entry : ℕ) (stood : Bool) (i : ℕ) (body : Block) (c : Tree) → IsWellTyped structs units entry →
    RunsHaveOutputs (setting_of structs units entry) i body → PlainResidual (setting_of structs units entry) stood i body c →
    CallsMatchCallees (setting_of structs units entry) i c
