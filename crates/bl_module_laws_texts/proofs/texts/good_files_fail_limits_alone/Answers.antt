use Rattle.bl_module_laws_texts.proofs.Together.{limits_alone}
use Rattle.bl_module_laws_texts.proofs.texts.good_files_fail_limits_alone.Goals as goal

pub returns : goal.returns
returns c = limits_alone c.joined_texts_keep_the_rules.ensures.bytes c.joined_texts_keep_the_rules.ensures.tokens c.files_are_the_whole.ensures.good
