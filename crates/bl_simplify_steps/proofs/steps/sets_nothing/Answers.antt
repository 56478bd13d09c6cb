use Rattle.std.proofs.Common.{sym, ◌∙◌}
use Rattle.bl_simplify_facts.specs.Entries.{facts_of}
use Rattle.bl_simplify_steps.proofs.SetLemmas.{changes-nothing}
use Rattle.bl_simplify_steps.proofs.steps.sets_nothing.Goals as goal

pub returns-then-is_spot : goal.returns-then-is_spot
returns-then-is_spot c = λ same.
    changes-nothing c.block_rules.ensures.same (facts_of c.args.cases.now) c.args.at.now c.args.value.now (sym c.is_spot.ensures ∙ c.if-is_spot.true)
    (sym c.all_have.ensures ∙ same)
