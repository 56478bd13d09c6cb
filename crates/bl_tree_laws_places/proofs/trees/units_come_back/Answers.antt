use Rattle.bl_tree_laws_places.proofs.Back.{unit_back}
use Rattle.bl_tree_laws_places.proofs.trees.units_come_back.Goals as goal

pub returns : goal.returns
returns c = unit_back
