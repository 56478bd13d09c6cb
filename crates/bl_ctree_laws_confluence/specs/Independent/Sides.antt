-- Deeds of two bodies of one instance that keep apart.
use Rattle.std.specs.Prelude.{◌≡◌, ℕ, Bool, false, List}
use Rattle.bl_tree.specs.declared.place.Place.{Place}
use Rattle.bl_tree.specs.declared.static_path.Static.{Static}
use Rattle.bl_tree.specs.declared.tree.StructDef.{StructDef}
use Rattle.bl_tree.specs.declared.tree.Unit.{Unit as UnitDef}
use Rattle.bl_tree.specs.Program.{IsWellTyped}
use Rattle.bl_tree.specs.Static.{overlaps}
use Rattle.bl_graph_nodes.specs.Plain.{Block}
use Rattle.bl_ctree.specs.Actions.{Effect}
use Rattle.bl_ctree.specs.Instances.{Setting, setting_of}
use Rattle.bl_ctree_laws.specs.Pending.{Deed, meets}
use Rattle.bl_ctree_laws.specs.Trees.{Tree}
use Rattle.bl_ctree_laws_confluence.specs.Deeds.Deeds.{Spares}
use Rattle.bl_ctree_laws_confluence.specs.Deeds.Homes.{OutputsAreApart}
use Rattle.bl_ctree_laws_confluence.specs.Apart.Forks.{Foreign}
use Rattle.bl_ctree_laws_confluence.specs.Apart.Outputs.{RunsHaveOutputs}
use Rattle.bl_ctree_laws_confluence.specs.Apart.Owned.{HasEffect, RunsAt, SomeIn}
use Rattle.bl_ctree_laws_confluence.specs.Apart.Parted.{BranchStep}
use Rattle.bl_ctree_laws_confluence.specs.Apart.Returns.{Returns}
use Rattle.bl_ctree_laws_confluence.specs.Apart.Writing.{StatementWrites}

-- a body that doesn't return, and whose `run` statements have the outputs of the instances that they begin
pub record Side (w : Setting) (i : ℕ) (body : Block) : Type 0 where
  pub returns : SomeIn Returns body → ⊥
  pub outputs : RunsHaveOutputs w i body

-- two bodies of the instance that don't run at one place, don't write over each other, and don't name what the other declares
pub record KeptApart (w : Setting) (i : ℕ) (one other : Block) : Type 0 where
  pub runs : (place : Place) → SomeIn (RunsAt place) one → SomeIn (RunsAt place) other → ⊥
  pub writes : (path path' : Static) → SomeIn (StatementWrites path) one → SomeIn (StatementWrites path') other → overlaps path path' ≡ false
  pub names : (effect effect' : Effect) → SomeIn (HasEffect w i effect) one → SomeIn (HasEffect w i effect') other →
      Foreign effect effect' × Foreign effect' effect

-- a deed of one branch spares a deed of the other, if the second reads nothing that the first may still write
abbrev pub SidesSpare : Type 0
SidesSpare =
    (structs : List StructDef) (units : List UnitDef) (entry : ℕ) (stood stood' : Bool) (i : ℕ) (one other : Block) (c c' : Tree) (a b : Deed) →
    let w = setting_of structs units entry in
    IsWellTyped structs units entry → OutputsAreApart w → Side w i one → Side w i other → KeptApart w i one other →
    BranchStep w stood i one c a → BranchStep w stood' i other c' b → meets w i c b ≡ false → Spares w a b
