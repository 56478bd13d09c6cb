use Rattle.bl_names_laws_places.proofs.ItemsNamed.{names_agree as agree}
use Rattle.bl_names_laws_places.proofs.items.names_agree.Goals as goal

pub returns : goal.returns
returns c = agree
