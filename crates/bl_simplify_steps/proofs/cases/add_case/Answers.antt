use Rattle.std.proofs.Common.{rules, ◌∷◌, []}
use Rattle.bl_simplify_facts.specs.Entries.{facts_of, valuation}
use Rattle.bl_simplify_steps.proofs.LooserLemmas.{no-more}
use Rattle.bl_simplify_steps.proofs.cases.add_case.Goals as goal

pub returns-else-not-has_case : goal.returns-else-not-has_case
returns-else-not-has_case c =
    no-more (facts_of c.args.cases.now) (valuation c.args.case.now ∷ []) (search rules)
