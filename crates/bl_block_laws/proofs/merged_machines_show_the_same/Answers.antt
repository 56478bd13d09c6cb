use Rattle.bl_block_laws.proofs.Going.{show_the_same}
use Rattle.bl_block_laws.proofs.merged_machines_show_the_same.Goals as goal

pub returns : goal.returns
returns c = show_the_same
