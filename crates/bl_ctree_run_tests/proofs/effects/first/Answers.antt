use Rattle.std.proofs.Common.{◌∙◌, slice_get, ap}
use Rattle.bl_ctree_run_tests.proofs.FirstLemmas.{first_stands}
use Rattle.bl_ctree_run_tests.proofs.effects.first.Goals as goal

pub returns-in-Some-first : goal.returns-in-Some-first
returns-in-Some-first c =
    first_stands c.args.program.now.units c.in-Some.unit.now c.in-Some-first.s.now
    (c.in-Some.ensures.value ∙ ap (λ units. slice_get units 0) c.as_slice.ensures)
    (c.in-Some-first.ensures.value ∙ ap (λ body. slice_get body 0) c.as_slice-2.ensures)
