-- What the arms and branches of a statement can write before they pause.
use Rattle.bl_tree.specs.declared.tree.Arm.{Arm, fold-Arm}
use Rattle.bl_tree.specs.declared.tree.Branch.{Branch, fold-Branch}
use Rattle.bl_effects.specs.Surface.{BranchSurface, Surface, arm_surface, branch_surface, kind_surface, stmt_surface}

-- what an arm reads and writes before it pauses
abbrev pub surface_of_arm : Arm → Surface
surface_of_arm = fold-Arm Surface Surface BranchSurface Surface kind_surface arm_surface branch_surface stmt_surface

-- what a branch reads and writes before it pauses
abbrev pub surface_of_branch : Branch → BranchSurface
surface_of_branch = fold-Branch Surface Surface BranchSurface Surface kind_surface arm_surface branch_surface stmt_surface
