-- What the positions in parts of targets, in arms and in branches lead to.
use Rattle.std.specs.Prelude.{List}
use Rattle.bl_names_tree.specs.declared.expr.NamedPart.{NamedPart, fold-NamedPart}
use Rattle.bl_names_tree.specs.declared.item.NamedVar.{NamedVar}
use Rattle.bl_names_tree.specs.declared.named.Named.{Named}
use Rattle.bl_names_tree.specs.declared.stmt.NamedArm.{NamedArm, fold-NamedArm}
use Rattle.bl_names_tree.specs.declared.stmt.NamedBranch.{NamedBranch, fold-NamedBranch}
use Rattle.bl_names_laws.specs.Referents.{Referents, arm_layer_leads, branch_layer_leads, expr_layer_leads, kind_leads, part_leads, stmt_kind_leads}
use Rattle.bl_names_laws.specs.Referents.{stmt_layer_leads, target_layer_leads}

-- what a part of a target leads to, in a unit that has these variables
abbrev pub step_leads : Named → List NamedVar → NamedPart → Referents
step_leads named vars = fold-NamedPart Referents Referents Referents Referents (kind_leads named vars) part_leads expr_layer_leads (target_layer_leads named vars)

-- what an arm leads to, all that stands in it included
abbrev pub leads_of_arm : Named → List NamedVar → NamedArm → Referents
leads_of_arm named vars = fold-NamedArm Referents Referents Referents Referents (stmt_kind_leads named vars) (arm_layer_leads named vars) branch_layer_leads stmt_layer_leads

-- what a branch leads to, all that stands in it included
abbrev pub leads_of_branch : Named → List NamedVar → NamedBranch → Referents
leads_of_branch named vars =
    fold-NamedBranch Referents Referents Referents Referents (stmt_kind_leads named vars) (arm_layer_leads named vars) branch_layer_leads stmt_layer_leads
