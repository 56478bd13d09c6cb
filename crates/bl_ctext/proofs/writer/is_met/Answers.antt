use Rattle.std.proofs.Common.{rules, sym, ◌∙◌}
use Rattle.bl_ctext.proofs.Cutting.{meets-last, meets-nothing_behind}
use Rattle.bl_ctext.proofs.writer.is_met.Goals as goal

pub returns : goal.returns
returns c = c.is_joined.ensures ∙ sym (meets-last c.args.text.now c.args.next.now c.in-Some.last.now c.in-Some-first.first.now (search rules) (search rules))

pub returns-in_default-first : goal.returns-in_default-first
returns-in_default-first c = sym (meets-nothing_behind c.args.text.now c.args.next.now (search rules))
