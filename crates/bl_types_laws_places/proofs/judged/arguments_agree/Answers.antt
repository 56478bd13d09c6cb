use Rattle.bl_types_laws_places.proofs.Together.{arguments_agree as agree}
use Rattle.bl_types_laws_places.proofs.judged.arguments_agree.Goals as goal

pub returns : goal.returns
returns c = agree
