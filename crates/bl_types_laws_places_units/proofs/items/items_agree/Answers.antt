use Rattle.bl_types_laws_places_units.proofs.ItemTurns as turns
use Rattle.bl_types_laws_places_units.proofs.items.items_agree.Goals as goal

pub returns : goal.returns
returns c by = turns.items_agree by c.expressions_agree.ensures c.arguments_agree.ensures c.declarations_agree.ensures
