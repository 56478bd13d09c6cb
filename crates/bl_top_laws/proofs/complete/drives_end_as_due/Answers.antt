use Rattle.bl_top_laws.proofs.Drives.{drives_end_as_due, others_have_other_shapes}
use Rattle.bl_top_laws.proofs.complete.drives_end_as_due.Goals as goal

pub returns-clause-due : goal.returns-clause-due
returns-clause-due c = drives_end_as_due c.an_accepted_text_has_one_tree.ensures.one

pub returns-clause-others : goal.returns-clause-others
returns-clause-others c = others_have_other_shapes c.an_accepted_text_has_one_tree.ensures.one
