use Rattle.bl_simplify_facts.specs.Entries.{facts_of}
use Rattle.bl_simplify_steps.proofs.StepLemmas.{of-any}
use Rattle.bl_simplify_steps.proofs.steps.few.Goals as goal

pub returns-else-are_few : goal.returns-else-are_few
returns-else-are_few c = of-any c.after_any.result (facts_of c.args.cases.now) c.args.stmt.now c.step_rules.ensures.any c.after_any.ensures
