-- In accepted programs each `run` begins an instance of a unit, and the trees that runs reach stand at their places.
use Rattle.std.specs.Prelude.{◌≡◌, ℕ, ℤ, false, List}
use Rattle.bl_tree.specs.declared.tree.StructDef.{StructDef}
use Rattle.bl_tree.specs.declared.tree.Unit.{Unit as UnitDef}
use Rattle.bl_tree.specs.Program.{IsWellTyped}
use Rattle.bl_effects.specs.Rules.{Passes}
use Rattle.bl_ctree.specs.Actions.{Action}
use Rattle.bl_ctree.specs.Control.{Control}
use Rattle.bl_ctree.specs.Instances.{Setting, setting_of}
use Rattle.bl_ctree.specs.Reaches.{Reaches, ReachesInside}
use Rattle.bl_ctree.specs.Store.{Store}
use Rattle.bl_ctree.specs.Ticks.{Rests}
use Rattle.bl_ctree_laws.specs.Bridge.{plain_tree}
use Rattle.bl_ctree_laws.specs.Runs.{entry_block}
use Rattle.bl_ctree_laws.specs.Trees.{is_settled}
use Rattle.bl_ctree_laws_traces.specs.Progress.Laws.{Could}
use Rattle.bl_ctree_laws_traces.specs.Progress.Places.{AllCallable}
use Rattle.bl_ctree_laws_traces.specs.Progress.Reached.{TreeFitsGraph, TreeFitsGraphNow}

-- in each typed program each `run` begins an instance of a unit
abbrev pub ProgramsAreCallable : Type 0
ProgramsAreCallable = (structs : List StructDef) (units : List UnitDef) (entry : ℕ) → IsWellTyped structs units entry →
    AllCallable (setting_of structs units entry)

-- what holds of the trees that runs reach
pub record TreesFitGraphs (w : Setting) : Type 0 where
  -- between ticks the trees fit the graph of the entry's body
  pub trees : (rows : List (List ℤ)) (c : Control) (store : Store) → Reaches w rows c store → TreeFitsGraph w (entry_block w) (plain_tree c)
  -- within ticks, after any steps, the trees fit the graph of the entry's body
  pub inside : (rows : List (List ℤ)) (row : List ℤ) (actions : List Action) (c : Control) (store : Store) →
      ReachesInside w rows row actions (Rests c store) → TreeFitsGraphNow w (entry_block w) (plain_tree c)
  -- where something is left to do something could act
  pub could : (rows : List (List ℤ)) (row : List ℤ) (actions : List Action) (c : Control) (store : Store) →
      ReachesInside w rows row actions (Rests c store) → is_settled (plain_tree c) ≡ false → Could w 0 (plain_tree c)

-- in each typed program that passes the rules the trees that runs reach fit their graphs
abbrev pub AcceptedTreesFitGraphs : Type 0
AcceptedTreesFitGraphs =
    (structs : List StructDef) (units : List UnitDef) (entry : ℕ) → IsWellTyped structs units entry → Passes units →
    TreesFitGraphs (setting_of structs units entry)
