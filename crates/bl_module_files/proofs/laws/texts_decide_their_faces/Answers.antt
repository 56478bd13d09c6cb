use Rattle.bl_module_files.proofs.Told.{faces_one, faces_taken, files_read, first_read, texts_counted, texts_read}
use Rattle.bl_module_files.proofs.laws.texts_decide_their_faces.Goals as goal

pub returns-clause-texts : goal.returns-clause-texts
returns-clause-texts c = texts_read

pub returns-clause-first : goal.returns-clause-first
returns-clause-first c = first_read

pub returns-clause-count : goal.returns-clause-count
returns-clause-count c = texts_counted

pub returns-clause-read : goal.returns-clause-read
returns-clause-read c = files_read

pub returns-clause-taken : goal.returns-clause-taken
returns-clause-taken c = faces_taken c.fronts_are_one.ensures.tokens c.fronts_are_one.ensures.stop c.whole_fronts_are_lexed.ensures.whole

pub returns-clause-one : goal.returns-clause-one
returns-clause-one c = faces_one c.a_text_has_one_face.ensures
