use Rattle.bl_types_laws_places.proofs.Together.{expressions_agree as agree}
use Rattle.bl_types_laws_places.proofs.judged.expressions_agree.Goals as goal

pub returns : goal.returns
returns c = agree
