use Rattle.bl_emit_laws.proofs.OnCells.Whole.{small}
use Rattle.bl_emit_laws.proofs.cells.files_small.Goals as goal

pub returns : goal.returns
returns c program = small program (c.needed_small.ensures program) (c.needed_closed.ensures program) (c.files_count.ensures program)
