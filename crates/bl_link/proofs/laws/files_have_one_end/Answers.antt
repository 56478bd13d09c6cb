use Rattle.std.proofs.Common.{length}
use Rattle.bl_link.proofs.Answers.{no_failure, same_failure}
use Rattle.bl_link.proofs.Turns.{fails_among_more, good_files_fail_nowhere, one_failure, one_further, same_faces}
use Rattle.bl_link.proofs.laws.files_have_one_end.Goals as goal

pub returns-clause-faces : goal.returns-clause-faces
returns-clause-faces c = same_faces c.a_text_has_one_face.ensures

pub returns-clause-good : goal.returns-clause-good
returns-clause-good c = λ texts faces file rule place also good.
    good_files_fail_nowhere c.a_text_has_one_face.ensures c.first_failing_is_one.ensures.none (length texts) texts faces file rule place also good

pub returns-clause-file : goal.returns-clause-file
returns-clause-file c = λ count texts.
    one_failure c.a_text_has_one_face.ensures c.first_failing_is_one.ensures.none count texts c.first_failing_is_one.ensures.one

pub returns-clause-further : goal.returns-clause-further
returns-clause-further c = λ count texts.
    one_further c.a_text_has_one_face.ensures c.first_failing_is_one.ensures.none count texts c.first_failing_is_one.ensures.further

pub returns-clause-more : goal.returns-clause-more
returns-clause-more c = fails_among_more

pub returns-clause-program : goal.returns-clause-program
returns-clause-program c = λ texts program file rule place are fail.
    no_failure c.tokens_are_one.ensures c.a_text_has_one_tree.ensures texts are.have.raw file rule place are.have.tree are.have.passes
    fail.fail

pub returns-clause-together : goal.returns-clause-together
returns-clause-together c = λ texts file elsewhere rule other place there fail too.
    same_failure c.tokens_are_one.ensures c.a_text_has_one_tree.ensures texts file elsewhere rule other place there fail.fail too.fail
