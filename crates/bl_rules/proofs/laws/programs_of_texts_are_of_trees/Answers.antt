use Rattle.bl_rules.proofs.Layers.{of_tree, of_tree_of_text}
use Rattle.bl_rules.proofs.laws.programs_of_texts_are_of_trees.Goals as goal

pub returns-clause-spelled : goal.returns-clause-spelled
returns-clause-spelled c = of_tree c.what_is_spelled_keeps.ensures.keeps

pub returns-clause-accepted : goal.returns-clause-accepted
returns-clause-accepted c = of_tree_of_text c.what_is_spelled_keeps.ensures.keeps
