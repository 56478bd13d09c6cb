-- What is walked are the rows of the report.
use Rattle.std.proofs.Common.{◌∙◌, subst}
use Rattle.std.proofs.lemmas.Result.{IfOk-weaker}
use Rattle.bl_ctree.specs.Means.{Means, shown_trace}
use Rattle.bl_gen_run.proofs.walked.trace_of.Goals as goal

pub returns : goal.returns
returns c =
    let program = c.args.accepted.now.program in
    IfOk-weaker c.walk.result _ _
    (λ trace means. subst (λ rows. Means program.structs program.units program.entry rows (shown_trace trace)) (c.as_slice.ensures ∙ c.in_ok-rows.ensures)
    means) c.walk.ensures.means
