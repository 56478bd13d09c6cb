-- What the structs of needed units are.
use Rattle.std.specs.Prelude.{◌≡◌, ◌⊎◌, ℕ, ◌+◌, ◌≤◌, true, List, Contains, Some, slice_get}
use Rattle.bl_tree.specs.declared.c.CMember.{CMember}
use Rattle.bl_tree.specs.declared.c.CStruct.{CStruct}
use Rattle.bl_tree.specs.declared.c.CType.TheVariants.{Scalar as OfScalar, Struct as OfStruct}
use Rattle.bl_tree.specs.declared.scalar.Scalar.{Scalar as ScalarType}
use Rattle.bl_tree.specs.declared.text.Text.{Text}
use Rattle.bl_tree.specs.declared.tree.StructDef.{StructDef}
use Rattle.bl_tree.specs.declared.tree.Unit.{Unit as UnitDef}
use Rattle.bl_tree.specs.Words.{are_distinct}
use Rattle.bl_limits_measures.specs.Units.{chain_at}
use Rattle.bl_emit_structs_laws_wellformed.specs.Names.{member_names}
use Rattle.bl_emit_structs_laws_wellformed.specs.Formed.{OfVariable}

-- a member is a scalar
pub record OfNumber (m : CMember) : Type 0 where
  pub scalar : ScalarType
  pub is : m.ty ≡ OfScalar scalar

-- a member is the struct of an activity that the unit at the position runs, which heads a shorter chain
pub record OfCallee (units : List UnitDef) (name : Text → Text) (k : ℕ) (m : CMember) : Type 0 where
  pub position : ℕ
  pub callee : UnitDef
  pub is_there : slice_get units position ≡ Some callee
  pub is : m.ty ≡ OfStruct (name callee.name)
  pub less : chain_at units position + 1 ≤ chain_at units k

-- a member of a struct of the unit at the position: a scalar, a variable of the program, or such a struct
abbrev pub OfPart : List StructDef → List UnitDef → (Text → Text) → ℕ → CMember → Type 0
OfPart structs units name k m = OfNumber m ⊎ (OfVariable structs units m ⊎ OfCallee units name k m)

-- a struct of a unit, which these names are made for: no two members have one name
pub record IsPart (structs : List StructDef) (units : List UnitDef) (name : Text → Text) (s : CStruct) : Type 0 where
  pub position : ℕ
  pub unit : UnitDef
  pub is_there : slice_get units position ≡ Some unit
  pub named : s.name ≡ name unit.name
  pub distinct : are_distinct (member_names s) ≡ true
  pub members : (m : CMember) → Contains s.members m → OfPart structs units name position m
