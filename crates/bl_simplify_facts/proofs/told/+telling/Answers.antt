use Rattle.bl_ctext_semantics.specs.Builtin.{builtin_of}
use Rattle.bl_simplify_facts.specs.Entries.{valuation}
use Rattle.bl_simplify_facts.proofs.ToldLemmas.{many-args}
use Rattle.bl_simplify_facts.proofs.told.+telling.Goals as goal

pub call_fact-returns-in_default-2 : goal.call_fact-returns-in_default-2
call_fact-returns-in_default-2 t c = many-args (builtin_of c.args.name.now) (valuation c.args.known.now) c.args.args.now c.in_default.len_at_least
