-- No two branches of one `cobegin` run at one place.
use Rattle.std.specs.Prelude.{◌≡◌, ℕ, List, Some, IsTrue, ⊤}
use Rattle.bl_tree.specs.declared.place.Place.{Place}
use Rattle.bl_tree.specs.declared.tree.Stmt.{Stmt}
use Rattle.bl_tree.specs.declared.tree.StructDef.{StructDef}
use Rattle.bl_tree.specs.declared.tree.Unit.{Unit as UnitDef}
use Rattle.bl_tree.specs.Program.{IsWellTyped}
use Rattle.bl_tree.specs.Within.{RunsIn, StandsIn, is_run, place_of}
use Rattle.bl_effects.specs.Rules.{Passes}
use Rattle.bl_graph_nodes.specs.Plain.{Bodies, Position, Body as BodyOf, Last, plain_block, plain_body}
use Rattle.bl_ctree.specs.Instances.{setting_of, unit_at}
use Rattle.bl_ctree_laws_confluence.specs.Apart.Forks.{EachForkIn}
use Rattle.bl_ctree_laws_confluence.specs.Apart.Owned.{RunsAt, SomeIn, SomeInEach}

-- a `run` statement with this place stands in the body
pub record RunStands (body : List Stmt) (place : Place) : Type 0 where
  pub statement : Stmt
  pub stands : StandsIn body statement
  pub runs : IsTrue (is_run statement)
  pub placed : place_of statement ≡ place

-- a `run` at a place in the plain block of a body is that of a `run` statement with this place
abbrev pub RunsAreOfStatements : Type 0
RunsAreOfStatements = (body : List Stmt) (at : Position) (place : Place) → SomeIn (RunsAt place) (plain_block body at) → RunStands body place

-- no two branches have `run`s at one place
abbrev pub RunApart : Bodies → Type 0
RunApart Last = ⊤
RunApart (BodyOf weak body rest) = ((place : Place) → SomeIn (RunsAt place) body → SomeInEach (RunsAt place) rest → ⊥) × RunApart rest

-- where no `run` statements of one place stand in two branches of a statement the plain branches don't run at one place either
abbrev pub BranchesRunApart : Type 0
BranchesRunApart =
    (body : List Stmt) (at : Position) →
    ((outer s t : Stmt) (j k : ℕ) → StandsIn body outer → RunsIn outer j s → RunsIn outer k t → place_of s ≡ place_of t → j ≡ k) →
    EachForkIn RunApart (plain_block body at)

-- in an accepted program no two branches of a unit that has an instance have `run`s at one place
abbrev pub AcceptedRunsApart : Type 0
AcceptedRunsApart =
    (structs : List StructDef) (units : List UnitDef) (entry i : ℕ) (unit : UnitDef) → IsWellTyped structs units entry → Passes units →
    unit_at (setting_of structs units entry) i ≡ Some unit → EachForkIn RunApart (plain_body unit.body)
