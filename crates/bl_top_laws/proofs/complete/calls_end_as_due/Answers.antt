use Rattle.bl_top_laws.proofs.Calls.{calls_end_as_due}
use Rattle.bl_top_laws.proofs.complete.calls_end_as_due.Goals as goal

pub returns : goal.returns
returns c =
    calls_end_as_due c.an_accepted_text_has_one_tree.ensures.one c.bytes_behave_as_their_file.ensures.each c.one_memory.ensures
    (record {
      read = c.texts_decide_their_faces.ensures.read;
      taken = c.texts_decide_their_faces.ensures.taken;
      one = c.texts_decide_their_faces.ensures.one;
      bad = c.bad_faces_dont_stand.ensures;
    })
    (record {
      read = c.texts_decide_their_faces.ensures.texts;
      first = c.texts_decide_their_faces.ensures.first;
      counted = c.texts_decide_their_faces.ensures.count;
      good = c.files_have_one_end.ensures.good;
      more = c.files_have_one_end.ensures.more;
      one = c.parts_have_one_tree.ensures.one;
    })
