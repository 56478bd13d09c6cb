use Rattle.std.proofs.Common.{ap, not, rules, sym, ◌∙◌}
use Rattle.bl_emit_blocks.proofs.Ending.{ends-last}
use Rattle.bl_emit_blocks.proofs.ends.unit_may_end.Goals as goal

pub returns-in-Some : goal.returns-in-Some
returns-in-Some c = ap not (c.is_endless.ensures ∙ sym (ends-last c.args.unit.now.body c.in-Some.s.now (search rules)))
