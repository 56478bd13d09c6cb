use Rattle.bl_top.proofs.Alike.{source_streams}
use Rattle.bl_top.proofs.laws.a_source_runs_in_one_way.Goals as goal

pub returns : goal.returns
returns c = source_streams c.an_accepted_text_has_one_tree.ensures.one
