-- What measures of a typed program are, in terms of its types and of its instances.
use Rattle.std.specs.Prelude.{◌≡◌, ℕ, List, [], length, IsTrue}
use Rattle.bl_tree.specs.declared.tree.StructDef.{StructDef}
use Rattle.bl_tree.specs.declared.tree.Unit.{Unit as UnitDef}
use Rattle.bl_tree.specs.Program.{units_stand_after}
use Rattle.bl_ctree.specs.Instances.{instances_of}
use Rattle.bl_limits_measures.specs.Units.{instances_at}
use Rattle.bl_limits_measures.specs.Uses.{UsesEarlier}

-- the units of a typed program use earlier ones alone
abbrev pub UnitsUseEarlierOnes : Type 0
UnitsUseEarlierOnes = (structs : List StructDef) (units : List UnitDef) → IsTrue (units_stand_after structs [] units) → UsesEarlier units

-- the number of instances to which a unit expands is how many the list of them has
abbrev pub InstancesAreCounted : Type 0
InstancesAreCounted = (units : List UnitDef) (k : ℕ) → UsesEarlier units → length (instances_of units k) ≡ instances_at units k
