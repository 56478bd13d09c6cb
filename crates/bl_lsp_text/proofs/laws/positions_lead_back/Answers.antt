use Rattle.bl_lsp_text.specs.Positions.{at_start}
use Rattle.bl_lsp_text.proofs.Back.{leads-back}
use Rattle.bl_lsp_text.proofs.laws.positions_lead_back.Goals as goal

pub returns : goal.returns
returns c = λ text offset begins. leads-back at_start text offset begins.within begins.begins
