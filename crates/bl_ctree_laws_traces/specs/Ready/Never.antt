-- No tree that runs reach is stuck.
use Rattle.std.specs.Prelude.{◌≡◌, ◌⊎◌, ℕ, ℤ, Bool, false, List, Some}
use Rattle.bl_tree.specs.declared.tree.StructDef.{StructDef}
use Rattle.bl_tree.specs.declared.tree.Unit.{Unit as UnitDef}
use Rattle.bl_tree.specs.Program.{IsWellTyped}
use Rattle.bl_effects.specs.Rules.{Passes}
use Rattle.bl_graph_nodes.specs.Nodes.{Node}
use Rattle.bl_graph_nodes.specs.Plain.{plain_body}
use Rattle.bl_graph_nodes.specs.Steps.{StepLabel}
use Rattle.bl_ctree.specs.Actions.{Action}
use Rattle.bl_ctree.specs.Control.{Control}
use Rattle.bl_ctree.specs.Instances.{Setting, setting_of, unit_at}
use Rattle.bl_ctree.specs.Reaches.{NeverStuck, ReachesInside}
use Rattle.bl_ctree.specs.Store.{Store}
use Rattle.bl_ctree.specs.Ticks.{Rests}
use Rattle.bl_ctree_laws.specs.Bridge.{plain_tree}
use Rattle.bl_ctree_laws.specs.Pending.{Deed}
use Rattle.bl_ctree_laws.specs.Steps.{Anyway, Moves, Unmet}
use Rattle.bl_ctree_laws.specs.Trees.{Tree, is_settled}
use Rattle.bl_ctree_laws_confluence.specs.Deeds.Homes.{OutputsAreApart}
use Rattle.bl_ctree_laws_confluence.specs.Apart.Seen.{CallsMatchCallees}
use Rattle.bl_ctree_laws_traces.specs.Progress.FitsGraph.{FitsGraph}
use Rattle.bl_ctree_laws_traces.specs.Progress.Places.{whole}
use Rattle.bl_ctree_laws_traces.specs.Ready.Ranks.{LowerCould, Rising}

-- a step that may be taken
pub record May (w : Setting) (i : ℕ) (c : Tree) : Type 0 where
  pub answer : Bool
  pub deed : Deed
  pub label : StepLabel
  pub after : Tree
  pub moves : Moves Unmet w i c answer deed label after

-- where numbers rise a step may be taken in each tree at its place in which something is left to do
abbrev pub UnsettledMay : Type 0
UnsettledMay =
    (structs : List StructDef) (units : List UnitDef) (entry : ℕ) (rank : ℕ → Node → ℕ) (i : ℕ) (unit : UnitDef) (stood : Bool) (c : Tree) →
    let w = setting_of structs units entry in
    Rising w rank → OutputsAreApart w → unit_at w i ≡ Some unit → FitsGraph w i c (whole stood (plain_body unit.body)) → CallsMatchCallees w i c →
    is_settled c ≡ false → May w i c

-- the `run`s in trees that runs reach inside ticks have the callees that their places begin, with their outputs
abbrev pub ReachedCallsMatch : Setting → Type 0
ReachedCallsMatch w =
    (rows : List (List ℤ)) (row : List ℤ) (actions : List Action) (c : Control) (store : Store) → ReachesInside w rows row actions (Rests c store) →
    CallsMatchCallees w 0 (plain_tree c)

-- in each typed program the calls in reached trees match their callees
abbrev pub TypedCallsMatch : Type 0
TypedCallsMatch =
    (structs : List StructDef) (units : List UnitDef) (entry : ℕ) → IsWellTyped structs units entry → ReachedCallsMatch (setting_of structs units entry)

-- in reached trees of an accepted program the least step that could be taken is enabled, if numbers rise along all edges
abbrev pub ReachedLowestMayAct : Type 0
ReachedLowestMayAct =
    (structs : List StructDef) (units : List UnitDef) (entry : ℕ) (rank : ℕ → Node → ℕ) → IsWellTyped structs units entry → Passes units →
    let w = setting_of structs units entry in
    Rising w rank → (rows : List (List ℤ)) (row : List ℤ) (actions : List Action) (c : Control) (store : Store) →
    ReachesInside w rows row actions (Rests c store) → (d : Bool) (a : Deed) (n : StepLabel) (c' : Tree) →
    Moves Anyway w 0 (plain_tree c) d a n c' → Moves Unmet w 0 (plain_tree c) d a n c' ⊎ LowerCould w rank 0 (plain_tree c) n

-- no tick of an accepted program is stuck, if numbers rise along all edges of its tick graphs
abbrev pub AcceptedNeverStuck : Type 0
AcceptedNeverStuck =
    (structs : List StructDef) (units : List UnitDef) (entry : ℕ) (rank : ℕ → Node → ℕ) → IsWellTyped structs units entry → Passes units →
    Rising (setting_of structs units entry) rank → NeverStuck structs units entry
