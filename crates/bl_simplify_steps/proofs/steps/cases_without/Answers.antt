use Rattle.std.proofs.Common.{◌≡◌, ◌∙◌, ap, rules}
use Rattle.bl_simplify_facts.specs.Entries.{facts_of}
use Rattle.bl_simplify_steps.proofs.LooserLemmas.{forgotten}
use Rattle.bl_simplify_steps.proofs.steps.cases_without.Goals as goal

pub returns : goal.returns
returns c =
    let same : c.deref.result.now ≡ c.in_ok-left.left = search rules in
    forgotten c.together.result c.new-none.result c.deref.result.now c.args.gone.now (facts_of c.args.cases.now) c.block_rules.ensures.forgotten
    c.new-none.ensures (ap facts_of same ∙ c.in_ok-left.ensures) c.together.ensures
