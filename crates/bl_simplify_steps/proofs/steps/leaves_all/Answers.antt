use Rattle.std.proofs.Common.{◌≡◌, map, rules, sym, subst, ◌∙◌}
use Rattle.bl_simplify_laws.specs.Rules.{After, Facts}
use Rattle.bl_simplify_laws.specs.Steps.{without_spots}
use Rattle.bl_simplify_laws.specs.Written.{written_by}
use Rattle.bl_simplify_facts.specs.Entries.{facts_of}
use Rattle.bl_simplify_steps.proofs.ForgetLemmas.{cases-stay}
use Rattle.bl_simplify_steps.proofs.steps.leaves_all.Goals as goal

pub returns : goal.returns
returns c = λ leaves.
    let facts = facts_of c.args.cases.now in
    let all : c.deref.result.now ≡ written_by c.args.stmt.now = search rules in
    let same : map (without_spots (written_by c.args.stmt.now)) facts ≡ facts =
    cases-stay (written_by c.args.stmt.now) c.args.cases.now (search rules) in
    subst (After facts c.args.stmt.now) same (c.step_rules.ensures.any facts c.args.stmt.now)
