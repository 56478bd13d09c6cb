use Rattle.std.proofs.lemmas.Result.{IfOk-weaker}
use Rattle.bl_simplify_facts.specs.Entries.{facts_of}
use Rattle.bl_simplify_steps.proofs.exchange.compared.Goals as goal

pub returns : goal.returns
returns c =
    IfOk-weaker c.sharpened.result _ _
    (λ new alike. c.test_rules.ensures.chain (facts_of c.args.cases.now) c.args.condition.now c.in_ok-test.test new c.in_ok-test.ensures alike)
    c.sharpened.ensures
