use Rattle.bl_types_laws_places_units.proofs.Known.{items_in_turn}
use Rattle.bl_types_laws_places_units.proofs.items.items_follow.Goals as goal

pub returns : goal.returns
returns c = items_in_turn
