use Rattle.std.proofs.Common.{◌≡◌, ◌&&◌, List, drop}
use Rattle.std.specs.List.{list_all}
use Rattle.bl_tree.specs.declared.text.Text.{Text}
use Rattle.bl_ctext_semantics.specs.inner.Maps.{text_at}
use Rattle.bl_simplify_frames.specs.Plain.{plain_arg, plain_step}
use Rattle.bl_ctext_places.specs.Names.{HasNames}
use Rattle.bl_simplify_frames.proofs.plain.+asking.Given as goal

abbrev pub invariant-are_plain_args-loop-arg : goal.invariant-are_plain_args-loop-arg
invariant-are_plain_args-loop-arg l =
    (names : List Text) → HasNames (text_at l.framed) names →
    (l.plain && list_all (λ a. (plain_arg names a).plain) (drop l.arg-index l.args)) ≡ list_all (λ a. (plain_arg names a).plain) l.args

abbrev pub invariant-are_plain_steps-loop-step : goal.invariant-are_plain_steps-loop-step
invariant-are_plain_steps-loop-step l =
    (names : List Text) → HasNames (text_at l.framed) names →
    (l.plain && list_all (λ s. (plain_step names s).plain) (drop l.step-index l.steps)) ≡ list_all (λ s. (plain_step names s).plain) l.steps
