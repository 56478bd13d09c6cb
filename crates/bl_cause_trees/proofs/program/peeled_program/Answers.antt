use Rattle.std.proofs.Common.{ap, subst, sym, ◌∙◌}
use Rattle.bl_tree.specs.Program.{IsWellTyped}
use Rattle.bl_cause_trees.specs.inner.Judging.{with_bodies}
use Rattle.bl_cause_trees.proofs.program.peeled_program.Goals as goal

pub program_of-requires : goal.program_of-requires
program_of-requires c =
    subst (λ it. IsWellTyped it c.in_ok-units.units c.args.program.now.entry) (sym (c.in_ok-structs.ensures ∙ c.deref.ensures))
    (subst (λ it. IsWellTyped c.args.program.now.structs it c.args.program.now.entry) (sym (c.in_ok-units.ensures ∙ ap (λ it. with_bodies it c.args.bodies) c.deref-2.ensures)) c.requires.typed)
