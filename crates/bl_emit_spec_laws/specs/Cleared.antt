-- What is cleared as an instance begins.
use Rattle.std.specs.Prelude.{◌≡◌, ℕ, List, Some}
use Rattle.bl_tree.specs.declared.tree.StructDef.{StructDef}
use Rattle.bl_tree.specs.declared.tree.Unit.{Unit as UnitDef}
use Rattle.bl_ctree.specs.declared.instance.Origin.{Origin}
use Rattle.bl_ctree.specs.Instances.{callee_of, setting_of}
use Rattle.bl_machine_pass_laws_execution.specs.Executes.{ClearsInside}
use Rattle.bl_emit_spec_laws.specs.Calls.Built.{cleared, origin_at}

-- clearing is confined to the inside of the instance that begins, in every program
pub record ClearingIsInside : Type 0 where
  -- each instance that a `run` began is what its caller finds at the place of the `run`
  pub found : (structs : List StructDef) (units : List UnitDef) (entry k : ℕ) (origin : Origin) → let w = setting_of structs units entry in
      origin_at w k ≡ Some origin → callee_of w origin.caller origin.place ≡ Some k
  -- an instance that begins clears only what lies inside it
  pub inside : (structs : List StructDef) (units : List UnitDef) (entry : ℕ) → let w = setting_of structs units entry in
      ClearsInside w (cleared w)
