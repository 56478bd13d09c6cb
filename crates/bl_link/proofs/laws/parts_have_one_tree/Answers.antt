use Rattle.bl_link.proofs.Answers.{same_tree}
use Rattle.bl_link.proofs.Trees.{has_tree}
use Rattle.bl_link.proofs.laws.parts_have_one_tree.Goals as goal

pub returns-clause-some : goal.returns-clause-some
returns-clause-some c = has_tree c.joined_texts_have_joined_tokens.ensures c.joined_tokens_pass.ensures c.joined_tokens_spell_joined_items.ensures

pub returns-clause-one : goal.returns-clause-one
returns-clause-one c = same_tree c.tokens_are_one.ensures c.a_text_has_one_tree.ensures
