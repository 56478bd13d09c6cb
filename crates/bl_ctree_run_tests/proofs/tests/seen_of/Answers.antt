-- An accepted program has few instances.
use Rattle.std.proofs.Common.{◌<◌, ◌^◌, length, arith, subst, sym}
use Rattle.bl_tree.specs.declared.program.Program.{Program}
use Rattle.bl_ctree.specs.Instances.{instances_of}
use Rattle.bl_ctree_run_tests.proofs.tests.seen_of.Goals as goal

pub run-requires : goal.run-requires
run-requires c =
    let few = c.accepted_trees_have_few_instances.ensures c.in-Ok.accepted.program
    (c.programs_of_texts_are_of_trees.ensures.accepted _ c.in-Ok.accepted.program c.in-Ok.ensures.program) in
    subst (λ (it : Program). length (instances_of it.units it.entry) < 2 ^ 32) (sym c.program.ensures) (omega (arith, few))
