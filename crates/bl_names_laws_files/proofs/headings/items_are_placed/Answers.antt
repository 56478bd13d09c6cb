use Rattle.bl_names_laws_files.proofs.Placed.{items_are_placed as placed}
use Rattle.bl_names_laws_files.proofs.headings.items_are_placed.Goals as goal

pub returns : goal.returns
returns c = placed
