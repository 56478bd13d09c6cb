use Rattle.bl_conflict.proofs.RootLemmas.{still_has}
use Rattle.bl_conflict.proofs.touched.add_part.Goals as goal

pub returns-in-Ok-clause-has : goal.returns-in-Ok-clause-has
returns-in-Ok-clause-has c = c.in-Ok.ensures.updates.1

pub returns-in-Ok-clause-keeps : goal.returns-in-Ok-clause-keeps
returns-in-Ok-clause-keeps c = λ q old. still_has _ _ _ (c.in-Ok.ensures.updates.0 q) old
