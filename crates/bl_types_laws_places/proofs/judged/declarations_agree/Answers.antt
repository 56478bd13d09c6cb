use Rattle.bl_types_laws_places.proofs.Together.{declarations_agree as agree}
use Rattle.bl_types_laws_places.proofs.judged.declarations_agree.Goals as goal

pub returns : goal.returns
returns c = agree
