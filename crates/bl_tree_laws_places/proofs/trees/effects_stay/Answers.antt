use Rattle.bl_tree_laws_places.proofs.Effects.{effects_stay as stay}
use Rattle.bl_tree_laws_places.proofs.trees.effects_stay.Goals as goal

pub returns : goal.returns
returns c = stay
