-- Two settings that differ in the bodies of their units alone, which are those of the first with first turns of loops unrolled.
use Rattle.std.specs.Prelude.{ℕ, Option, Some, None, ◌≡◌}
use Rattle.bl_tree.specs.declared.tree.Unit.{Unit as UnitDef}
use Rattle.bl_graph_nodes.specs.Nodes.{Node}
use Rattle.bl_graph_nodes.specs.Plain.{Plain, plain_body}
use Rattle.bl_ctree.specs.Actions.{Effect, effect_on}
use Rattle.bl_ctree.specs.Instances.{Setting, unit_at}
use Rattle.bl_ctree.specs.Store.{Location, Store, home}
use Rattle.bl_ctree_laws_peeled.specs.Unrolls.{Unrolls}

-- what an instance has as its unit on both sides: none, or two units, where the second one's body has first turns unrolled
pub data UnitUnrolls (H : Node → Plain → Type 0) : Option UnitDef → Option UnitDef → Type 0 where
  no_unit : UnitUnrolls H None None
  one_unit : {unit unit' : UnitDef} → Unrolls H (plain_body unit.body) (plain_body unit'.body) → UnitUnrolls H (Some unit) (Some unit')

-- two settings with one list of instances, with homes and effects that agree, and with first turns unrolled in the second one's bodies
pub record SameProgram (H : ℕ → Node → Plain → Type 0) (w w' : Setting) : Type 0 where
  pub instances : w.instances ≡ w'.instances
  pub homes : (at : Location) → home w at ≡ home w' at
  pub effects : (i : ℕ) (effect : Effect) (store : Store) → effect_on w i effect store ≡ effect_on w' i effect store
  pub bodies : (i : ℕ) → UnitUnrolls (H i) (unit_at w i) (unit_at w' i)
