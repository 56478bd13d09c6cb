use Rattle.bl_module_laws_texts.proofs.Together.{JoiningLaws, only_size, texts_parse, tokens_pass}
use Rattle.bl_module_laws_texts.proofs.texts.joined_texts_keep_the_rules.Goals as goal

laws : goal.After-joined_tokens_spell_joined_items → JoiningLaws
laws c = record {
  tokens_one = c.tokens_are_one.ensures;
  tokens_pass = c.first_failure_is_one.ensures.none;
  lex = c.joined_texts_have_joined_tokens.ensures;
  pass = c.joined_tokens_pass.ensures;
  spell = c.joined_tokens_spell_joined_items.ensures;
}

pub returns-clause-bytes : goal.returns-clause-bytes
returns-clause-bytes c = only_size

pub returns-clause-tokens : goal.returns-clause-tokens
returns-clause-tokens c = tokens_pass (laws c)

pub returns-clause-tree : goal.returns-clause-tree
returns-clause-tree c = texts_parse (laws c)
