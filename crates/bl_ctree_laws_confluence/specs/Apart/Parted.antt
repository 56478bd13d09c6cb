-- Deeds that are done in either order are those of two branches of one `cobegin`.
use Rattle.std.specs.Prelude.{◌≡◌, ◌⊎◌, ℕ, Bool, false, List, Some}
use Rattle.bl_tree.specs.declared.tree.StructDef.{StructDef}
use Rattle.bl_tree.specs.declared.tree.Unit.{Unit as UnitDef}
use Rattle.bl_tree.specs.Program.{IsWellTyped}
use Rattle.bl_effects.specs.Rules.{Passes}
use Rattle.bl_graph_nodes.specs.Plain.{Block, Bodies, Body as BodyOf, plain_body}
use Rattle.bl_graph_nodes.specs.Steps.{StepLabel}
use Rattle.bl_ctree.specs.Instances.{Setting, setting_of, unit_at}
use Rattle.bl_ctree_laws.specs.Commutes.{Apart}
use Rattle.bl_ctree_laws.specs.Residual.{PlainResidual, PlainResidualEach}
use Rattle.bl_ctree_laws.specs.Pending.{Deed, any_meets, meets}
use Rattle.bl_ctree_laws.specs.Steps.{Moves, OneMoves, Unmet}
use Rattle.bl_ctree_laws.specs.Trees.{Tree, Trees}
use Rattle.bl_ctree_laws_confluence.specs.Apart.Forks.{EachForkIn, KeepApart}
use Rattle.bl_ctree_laws_confluence.specs.Apart.Outputs.{BranchesHaveOutputs}
use Rattle.bl_ctree_laws_confluence.specs.Apart.Returns.{NoneReturns}
use Rattle.bl_ctree_laws_confluence.specs.Apart.Running.{RunApart}
use Rattle.bl_ctree_laws_confluence.specs.Apart.Writing.{WriteApart}

-- branches, which stand in the instance, that keep apart
pub record StandApart (w : Setting) (i : ℕ) (bodies : Bodies) : Type 0 where
  -- no branch names what another declares
  pub names : KeepApart bodies
  -- no branch returns
  pub returns : NoneReturns bodies
  -- no two branches have `run`s at one place
  pub runs : RunApart bodies
  -- no branch writes a path that overlaps one that another writes
  pub writes : WriteApart bodies
  -- the `run` statements of the branches have the outputs of the instances that they begin
  pub outputs : BranchesHaveOutputs w i bodies

-- a step of what is left of a branch, which stands in the instance
pub record BranchStep (w : Setting) (stood : Bool) (i : ℕ) (body : Block) (c : Tree) (a : Deed) : Type 0 where
  pub left : PlainResidual w stood i body c
  pub answer : Bool
  pub label : StepLabel
  pub after : Tree
  pub moves : Moves Unmet w i c answer a label after

-- a step of what is left of one of the branches
pub record OneSteps (w : Setting) (stood : Bool) (i : ℕ) (bodies : Bodies) (branches : Trees) (a : Deed) : Type 0 where
  pub left : PlainResidualEach w stood i bodies branches
  pub answer : Bool
  pub label : StepLabel
  pub after : Trees
  pub moves : OneMoves Unmet w i branches answer a label after

-- two deeds are of different branches that keep apart, and neither reads what the other's branch may still write
pub record TwoBranches (w : Setting) (a b : Deed) : Type 0 where
  pub stood : Bool
  pub instance : ℕ
  pub weak : Bool
  pub body : Block
  pub rest : Bodies
  pub apart : StandApart w instance (BodyOf weak body rest)
  pub tree : Tree
  pub others : Trees
  pub first : BranchStep w stood instance body tree a
  pub second : OneSteps w stood instance rest others b
  pub first_unmet : any_meets w instance others a ≡ false
  pub second_unmet : meets w instance tree b ≡ false

-- the branches of each unit that has an instance keep apart
abbrev pub AllKeepApart : Setting → Type 0
AllKeepApart w = (i : ℕ) (unit : UnitDef) → unit_at w i ≡ Some unit → EachForkIn (StandApart w i) (plain_body unit.body)

-- if branches keep apart, steps of different branches are of two branches of one `cobegin`, in either order
abbrev pub ApartIsTwoBranches : Type 0
ApartIsTwoBranches =
    (w : Setting) (stood : Bool) (i : ℕ) (body : Block) (c : Tree) (a b : Deed) → AllKeepApart w → EachForkIn (StandApart w i) body →
    PlainResidual w stood i body c → Apart w i c a b → TwoBranches w a b ⊎ TwoBranches w b a

-- in an accepted program the branches of each `cobegin` keep apart
abbrev pub AcceptedKeepsApart : Type 0
AcceptedKeepsApart =
    (structs : List StructDef) (units : List UnitDef) (entry : ℕ) → IsWellTyped structs units entry → Passes units →
    AllKeepApart (setting_of structs units entry)
