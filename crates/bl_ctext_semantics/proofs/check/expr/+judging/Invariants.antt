use Rattle.std.proofs.Common.{◌≡◌, drop, map, ◌&&◌, ◌||◌, option_map}
use Rattle.bl_tree.specs.Reduce.{any_of, joined}
use Rattle.bl_ctext_semantics.specs.inner.Checked.{context_of, fit_from, is_handed, judged_args, signature_for, type_of}
use Rattle.bl_ctext_semantics.specs.Faults.{earlier_of, first_place, fit_args, judge_steps, judged_step}
use Rattle.bl_ctext_semantics.proofs.check.expr.+judging.Given as goal

abbrev pub invariant-judge_steps-loop-step : goal.invariant-judge_steps-loop-step
invariant-judge_steps-loop-step l =
    ((judge_steps (map judged_step (drop l.step-index l.steps)) (context_of l.context) l.at (option_map type_of l.ty)).ty
    ≡ (judge_steps (map judged_step l.steps) (context_of l.context) l.at (option_map type_of l.from)).ty)
    × (earlier_of l.first (first_place (judge_steps (map judged_step (drop l.step-index l.steps)) (context_of l.context) l.at
    (option_map type_of l.ty)).faults)
    ≡ first_place (judge_steps (map judged_step l.steps) (context_of l.context) l.at (option_map type_of l.from)).faults)

abbrev pub invariant-judge_args-loop-k : goal.invariant-judge_args-loop-k
invariant-judge_args-loop-k l =
    ((l.fit && fit_from (option_map signature_for l.callee) l.k (judged_args (drop l.k l.args) (context_of l.context) l.at))
    ≡ fit_args (option_map signature_for l.callee) (judged_args l.args (context_of l.context) l.at))
    × ((l.handed || any_of (map is_handed (judged_args (drop l.k l.args) (context_of l.context) l.at)))
    ≡ any_of (map is_handed (judged_args l.args (context_of l.context) l.at)))
    × (earlier_of l.first (first_place (joined (map (λ a. a.faults) (judged_args (drop l.k l.args) (context_of l.context) l.at))))
    ≡ first_place (joined (map (λ a. a.faults) (judged_args l.args (context_of l.context) l.at))))
