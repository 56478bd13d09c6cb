-- What proofs alone ask of named arms, branches and variables.
use Rattle.std.specs.Prelude.{◌≡◌, ℕ, Bool, true, is_some, List, slice_get, Option, Some, option_and_then}
use Rattle.bl_tree.specs.declared.tree.Ty.{Ty}
use Rattle.bl_tree.specs.declared.tree.Unit.{Unit as UnitDef}
use Rattle.bl_tree.specs.Types.{scalar_in}
use Rattle.bl_names_tree.specs.declared.item.NamedConstant.{NamedConstant}
use Rattle.bl_names_tree.specs.declared.item.NamedVar.{NamedVar}
use Rattle.bl_names_tree.specs.declared.stmt.NamedArm.{NamedArm, fold-NamedArm}
use Rattle.bl_names_tree.specs.declared.stmt.NamedBranch.{NamedBranch, fold-NamedBranch}
use Rattle.bl_types.specs.declared.environment.Variable.{Variable}
use Rattle.bl_types.specs.Units.{is_scalar}
use Rattle.bl_types_laws.specs.Standing.{arm_named, branch_named, kind_named, stmt_layer_named}

-- whether calls and declarations in an arm are named well, as in a statement
abbrev pub named_arm : List NamedConstant → List NamedVar → List UnitDef → NamedArm → Bool
named_arm constants vars units = fold-NamedArm Bool Bool Bool Bool (kind_named constants vars units) (arm_named units) branch_named stmt_layer_named

-- whether calls and declarations in a branch are named well, as in a statement
abbrev pub named_branch : List NamedConstant → List NamedVar → List UnitDef → NamedBranch → Bool
named_branch constants vars units = fold-NamedBranch Bool Bool Bool Bool (kind_named constants vars units) (arm_named units) branch_named stmt_layer_named

-- whether a type is there, and is scalar
abbrev pub has_scalar : Option Ty → Bool
has_scalar ty = is_some (option_and_then scalar_in ty)

-- a variable is that of the unit at this position, and has a scalar type where one is written
pub record NamedAs (vars : List NamedVar) (k : ℕ) (known : Variable) : Type 0 where
  pub var : NamedVar
  pub is_there : slice_get vars k ≡ Some var
  pub name : known.name ≡ var.name.text
  pub place : known.place ≡ var.name.place
  pub role : known.role ≡ var.role
  pub scalar : is_scalar var.ty ≡ true → has_scalar known.ty ≡ true

-- each of the variables is that of the unit at its position
abbrev pub VariablesNamed : List NamedVar → List Variable → Type 0
VariablesNamed vars variables = (k : ℕ) (known : Variable) → slice_get variables k ≡ Some known → NamedAs vars k known
