use Rattle.bl_rules.proofs.Layers.{one_tree, passes_tree}
use Rattle.bl_rules.proofs.laws.an_accepted_text_has_one_tree.Goals as goal

pub returns-clause-one : goal.returns-clause-one
returns-clause-one c = λ text raw other first second. one_tree c.tokens_are_one.ensures c.a_text_has_one_tree.ensures text raw other first.parses second.parses

pub returns-clause-passes : goal.returns-clause-passes
returns-clause-passes c = λ text raw has. passes_tree text raw has.passes has.parses
