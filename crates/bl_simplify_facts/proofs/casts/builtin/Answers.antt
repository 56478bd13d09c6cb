use Rattle.std.proofs.Common.{◌∙◌}
use Rattle.bl_ctext_semantics.proofs.TableLemmas.{found_builtin}
use Rattle.bl_simplify_facts.proofs.casts.builtin.Goals as goal

pub returns : goal.returns
returns c = c.builtin_in.ensures ∙ found_builtin c.args.name.now
