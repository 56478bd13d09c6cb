use Rattle.std.proofs.Common.{sym, ◌∙◌}
use Rattle.bl_machine_transitions.proofs.Loops.{block_empty}
use Rattle.bl_machine_transitions.proofs.size.is_bare.Goals as goal

pub returns : goal.returns
returns c = c.is_empty.ensures ∙ sym (block_empty c.args.body.now)
