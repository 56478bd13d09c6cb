use Rattle.bl_names_scopes_laws_places.proofs.MarksMoved.{marks_move as move}
use Rattle.bl_names_scopes_laws_places.proofs.marks.marks_move.Goals as goal

pub returns : goal.returns
returns c = move
