use Rattle.std.proofs.Common.{◌≡◌, ◌&&◌, List, drop}
use Rattle.std.specs.List.{list_all}
use Rattle.bl_tree.specs.declared.text.Text.{Text}
use Rattle.bl_ctext_semantics.specs.inner.Maps.{text_at}
use Rattle.bl_simplify_calls.specs.Checks.{arg_check, step_check}
use Rattle.bl_ctext_places.specs.Names.{HasNames}
use Rattle.bl_simplify_calls.proofs.exprs.+standing.Given as goal

abbrev pub invariant-in_args-loop-arg : goal.invariant-in_args-loop-arg
invariant-in_args-loop-arg l =
    (names : List Text) → HasNames (text_at l.framed) names →
    (l.stand && list_all (λ a. (arg_check names a).stands) (drop l.arg-index l.args)) ≡ list_all (λ a. (arg_check names a).stands) l.args

abbrev pub invariant-in_steps-loop-step : goal.invariant-in_steps-loop-step
invariant-in_steps-loop-step l =
    (names : List Text) → HasNames (text_at l.framed) names →
    (l.stand && list_all (λ s. (step_check names s).stands) (drop l.step-index l.steps)) ≡ list_all (λ s. (step_check names s).stands) l.steps
