use Rattle.std.proofs.lemmas.Result.{IfOk-weaker}
use Rattle.bl_simplify_facts.specs.Entries.{facts_of}
use Rattle.bl_simplify_walk.proofs.needed.cases_behind.Goals as goal

pub returns : goal.returns
returns c =
    IfOk-weaker c.needed.result _ _ (λ left less.
    c.step_rules.ensures.weaker.0 (facts_of c.args.cases.now) (facts_of c.in_ok-after.after) (facts_of left) c.args.stmt.now less
    c.in_ok-after.ensures) c.needed.ensures
