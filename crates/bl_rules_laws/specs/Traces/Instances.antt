-- Trees in which no rule fails have few activity instances.
use Rattle.std.specs.Prelude.{◌≤◌, length}
use Rattle.bl_tree.specs.declared.program.Program.{Program}
use Rattle.bl_ctree.specs.Instances.{instances_of}
use Rattle.bl_rules.specs.Accepted.{IsOfTree}

-- where no rule fails for a tree its program expands to 4,096 activity instances at most
abbrev pub TreesHaveFewInstances : Type 0
TreesHaveFewInstances = (program : Program) → IsOfTree program → length (instances_of program.units program.entry) ≤ 4_096
