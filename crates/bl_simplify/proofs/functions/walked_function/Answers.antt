use Rattle.std.proofs.Common.{◌≡◌, rules, subst}
use Rattle.std.proofs.lemmas.Result.{IfOk-weaker}
use Rattle.bl_simplify_facts.specs.Entries.{facts_of}
use Rattle.bl_simplify_live.specs.Reads.{SameAside}
use Rattle.bl_simplify.proofs.OnFunctions.{does_as}
use Rattle.bl_simplify.proofs.functions.walked_function.Goals as goal

pub returns : goal.returns
returns c =
    let same : c.deref.result.now ≡ c.in_ok-walked.walked = search rules in
    let aside : SameAside c.in_ok-walked.walked c.in_ok-body.body = subst (λ b. SameAside b c.in_ok-body.body) same c.in_ok-body.ensures in
    IfOk-weaker c.with_body.result _ _
    (λ new has. does_as c.frame_rules.ensures.frame c.frame_rules.ensures.same c.live_blocks.ensures.function (facts_of c.args.reached.now)
    c.args.function.now new c.in_ok-walked.walked c.in_ok-body.body c.in_ok-walked.ensures aside has)
    c.with_body.ensures
