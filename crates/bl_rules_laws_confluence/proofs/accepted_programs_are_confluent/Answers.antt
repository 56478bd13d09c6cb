use Rattle.bl_rules_laws_confluence.proofs.Ticks.{programs_confluent, texts_confluent}
use Rattle.bl_rules_laws_confluence.proofs.accepted_programs_are_confluent.Goals as goal

pub returns-clause-programs : goal.returns-clause-programs
returns-clause-programs c =
    programs_confluent c.trees_stay_left.ensures.inside c.plain_trees_tell.ensures c.what_is_typed_keeps.ensures.keeps
    c.accepted_programs_are_orderly.ensures c.accepted_programs_are_independent.ensures c.ticks_have_one_end.ensures

pub returns-clause-texts : goal.returns-clause-texts
returns-clause-texts c =
    texts_confluent
    (programs_confluent c.trees_stay_left.ensures.inside c.plain_trees_tell.ensures c.what_is_typed_keeps.ensures.keeps
    c.accepted_programs_are_orderly.ensures c.accepted_programs_are_independent.ensures c.ticks_have_one_end.ensures)
    c.programs_of_texts_are_of_trees.ensures.accepted
