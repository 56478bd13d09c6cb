use Rattle.bl_rules_laws_sizes.proofs.Small.{spelled_are_small, texts_are_small}
use Rattle.bl_rules_laws_sizes.proofs.programs_of_texts_are_small.Goals as goal

pub returns-clause-spelled : goal.returns-clause-spelled
returns-clause-spelled c = spelled_are_small c.what_is_spelled_keeps.ensures.keeps

pub returns-clause-accepted : goal.returns-clause-accepted
returns-clause-accepted c = texts_are_small c.what_is_spelled_keeps.ensures.keeps
