use Rattle.std.proofs.Common.{sym, ◌∙◌}
use Rattle.bl_conflict.proofs.AliasLemmas.{none_before, some_before}
use Rattle.bl_conflict.proofs.alias.first_of_all.Goals as goal

pub returns-in-Some : goal.returns-in-Some
returns-in-Some c = sym (some_before c.args.others.now c.args.more.now c.args.one.now c.in-Some.place (sym c.in-Some.ensures))

pub returns-in-None : goal.returns-in-None
returns-in-None c = c.first_overlapping-in-None.ensures ∙ sym (none_before c.args.others.now c.args.more.now c.args.one.now (sym c.in-None.ensures))
