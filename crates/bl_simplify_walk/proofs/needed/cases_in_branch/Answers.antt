use Rattle.std.proofs.lemmas.Result.{IfOk-weaker}
use Rattle.bl_simplify_walk.proofs.needed.cases_in_branch.Goals as goal

pub returns : goal.returns
returns c =
    IfOk-weaker c.needed.result _ _ (λ left less. λ scope memory held. less scope memory (c.in_ok-left.ensures scope memory held)) c.needed.ensures
