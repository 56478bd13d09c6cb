use Rattle.bl_emit_spec_laws_nodes.proofs.OnViews.Remembered.{remembering_all}
use Rattle.bl_emit_spec_laws_nodes.proofs.views.remembering_stands.Goals as goal

pub returns : goal.returns
returns c = remembering_all
