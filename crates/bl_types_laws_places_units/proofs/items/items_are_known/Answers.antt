use Rattle.bl_types_laws_places_units.proofs.Known.{items_known}
use Rattle.bl_types_laws_places_units.proofs.items.items_are_known.Goals as goal

pub returns : goal.returns
returns c = items_known
