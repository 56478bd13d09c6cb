-- Which arms and branches of a named tree have what the grammar wants.
use Rattle.std.specs.Prelude.{Bool, List}
use Rattle.bl_names_tree.specs.declared.item.NamedVar.{NamedVar}
use Rattle.bl_names_tree.specs.declared.stmt.NamedArm.{NamedArm, fold-NamedArm}
use Rattle.bl_names_tree.specs.declared.stmt.NamedBranch.{NamedBranch, fold-NamedBranch}
use Rattle.bl_names_laws.specs.Filled.{arm_filled, branch_filled, kind_filled, layer_filled}

-- whether all that stands in an arm of a unit with these variables has the parts that the grammar wants
abbrev pub arm_is_filled : List NamedVar → NamedArm → Bool
arm_is_filled vars = fold-NamedArm Bool Bool Bool Bool (kind_filled vars) arm_filled branch_filled layer_filled

-- whether all that stands in a branch of a unit with these variables has the parts that the grammar wants
abbrev pub branch_is_filled : List NamedVar → NamedBranch → Bool
branch_is_filled vars = fold-NamedBranch Bool Bool Bool Bool (kind_filled vars) arm_filled branch_filled layer_filled
