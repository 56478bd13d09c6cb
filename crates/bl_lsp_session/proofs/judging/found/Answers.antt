use Rattle.std.proofs.Common.{ap}
use Rattle.serde_json.specs.View.{items_view}
use Rattle.bl_lsp_session.specs.Found.{passes}
use Rattle.bl_lsp_session.proofs.judging.found.Goals as goal

pub returns-in-Ok : goal.returns-in-Ok
returns-in-Ok c = passes c.in-Ok.ensures.passes (ap items_view c.new.ensures.items)
