-- A text that keeps rule Size is short.
use Rattle.bl_rules.proofs.Causes.{is_short}
use Rattle.bl_link_together.proofs.alone.tree_alone.Goals as goal

pub parse-requires-clause-short : goal.parse-requires-clause-short
parse-requires-clause-short c = is_short c.args.text.now c.in-Ok.ensures.passes
