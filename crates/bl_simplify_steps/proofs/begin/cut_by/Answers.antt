use Rattle.std.proofs.Common.{rules}
use Rattle.bl_simplify_facts.specs.Entries.{facts_of}
use Rattle.bl_simplify_steps.proofs.LooserLemmas.{cut-looser}
use Rattle.bl_simplify_steps.proofs.begin.cut_by.Goals as goal

pub returns : goal.returns
returns c =
    cut-looser c.each_cut.result c.args.counter.now c.args.count c.deref.result.now (facts_of c.args.cases.now) c.block_rules.ensures.cut
    (search rules) c.each_cut.ensures
