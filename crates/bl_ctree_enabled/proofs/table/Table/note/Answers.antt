use Rattle.bl_ctree_enabled.proofs.TableLemmas.{still_noted}
use Rattle.bl_ctree_enabled.proofs.table.Table.note.Goals as goal

pub returns-in-Ok-clause-grows : goal.returns-in-Ok-clause-grows
returns-in-Ok-clause-grows c = λ k at was. still_noted _ _ _ (c.in-Ok.ensures.updates.0 (at.instance, at.path.root, k)) was
