use Rattle.bl_link.proofs.Answers.{faults_are_one, linked_is_no_fault, same_program}
use Rattle.bl_link.specs.Fits.{part_texts}
use Rattle.bl_link.proofs.laws.parts_have_one_answer.Goals as goal

pub returns-clause-linked : goal.returns-clause-linked
returns-clause-linked c = linked_is_no_fault c.tokens_are_one.ensures c.a_text_has_one_tree.ensures

pub returns-clause-fault : goal.returns-clause-fault
returns-clause-fault c = faults_are_one c.tokens_are_one.ensures c.a_text_has_one_tree.ensures

pub returns-clause-program : goal.returns-clause-program
returns-clause-program c = λ parts one other linked too.
    same_program c.tokens_are_one.ensures c.a_text_has_one_tree.ensures (part_texts parts) one other linked.have too.have
