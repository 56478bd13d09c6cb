use Rattle.std.proofs.Common.{rules}
use Rattle.bl_simplify_facts.specs.Entries.{valuation}
use Rattle.bl_simplify_steps.proofs.SetLemmas.{set-made}
use Rattle.bl_simplify_steps.proofs.sets.case_set.Goals as goal

pub returns : goal.returns
returns c =
    set-made c.args.at.now c.args.value.now (valuation c.args.case.now) (valuation c.in_ok-left.left) (valuation c.add_without.new.left)
    c.told_fact.result c.args.gone.now c.requires (search rules) (search rules) (search rules)
