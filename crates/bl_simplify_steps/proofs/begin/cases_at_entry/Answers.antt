use Rattle.std.proofs.Common.{◌++◌, ap, map, rules, ◌∙◌}
use Rattle.bl_simplify_facts.specs.Entries.{facts_of}
use Rattle.bl_simplify_steps.specs.Entry.{known_from}
use Rattle.bl_simplify_steps.proofs.LooserLemmas.{from-entry}
use Rattle.bl_simplify_steps.proofs.begin.cases_at_entry.Goals as goal

pub returns : goal.returns
returns c =
    from-entry c.all_cut.result (known_from (facts_of c.args.reached.now) c.args.function.now) _ (search rules) c.all_cut.ensures
