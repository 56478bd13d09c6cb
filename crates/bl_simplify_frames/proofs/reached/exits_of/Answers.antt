use Rattle.std.proofs.Common.{◌≡◌, [], ◌∷◌, rules, subst}
use Rattle.std.proofs.lemmas.Result.{IfOk-weaker}
use Rattle.bl_simplify_laws.specs.Rules.{AfterBlock, Facts}
use Rattle.bl_simplify_facts.specs.Entries.{facts_of, valuation}
use Rattle.bl_simplify_steps.specs.Entry.{known_from}
use Rattle.bl_simplify_frames.proofs.reached.exits_of.Goals as goal

pub returns : goal.returns
returns c =
    let f = c.args.function.now in
    let start : facts_of c.in_ok-cases.cases ≡ known_from (valuation c.args.case.now ∷ []) f = c.in_ok-cases.ensures in
    IfOk-weaker c.cases_after_all.result _ _
    (λ exits after. subst (λ (facts : Facts). AfterBlock facts f.body (facts_of exits)) start
    (subst (λ b. AfterBlock (facts_of c.in_ok-cases.cases) b (facts_of exits)) c.deref.ensures after)) c.cases_after_all.ensures
