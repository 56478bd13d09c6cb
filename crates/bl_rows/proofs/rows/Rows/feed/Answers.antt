use Rattle.std.proofs.Common.{ap, sym, ◌∙◌, Err, append-nil, ◌++◌}
use Rattle.bl_rows.specs.Reading.{Reading, call_answer}
use Rattle.bl_rows.proofs.Pieces.{unrefused_by, stopped_fault, stopped_rows, stopped_cut, answered_cut, answered_joins}
use Rattle.bl_rows.proofs.rows.Rows.feed.Goals as goal

pub returns-in-Some-clause-answer : goal.returns-in-Some-clause-answer
returns-in-Some-clause-answer c = unrefused_by (Err c.in-Some.fault)
    (ap call_answer (sym (stopped_fault c.args.self.now c.args.piece.now c.in-Some.fault (sym (ap (λ (r : Reading). r.stop) c.self.view_is) ∙ c.in-Some.is))))

pub returns-in-Some-clause-rows : goal.returns-in-Some-clause-rows
returns-in-Some-clause-rows c = unrefused_by (Err c.in-Some.fault)
    (sym (append-nil c.args.into.now.items) ∙ ap (λ r. c.args.into.now.items ++ r)
    (sym (stopped_rows c.args.self.now c.args.piece.now c.in-Some.fault (sym (ap (λ (r : Reading). r.stop) c.self.view_is) ∙ c.in-Some.is))))

pub returns-in-Some-clause-any_cut : goal.returns-in-Some-clause-any_cut
returns-in-Some-clause-any_cut c = λ rest. unrefused_by (Err c.in-Some.fault)
    (stopped_cut c.args.self.now c.args.piece.now rest c.in-Some.fault (sym (ap (λ (r : Reading). r.stop) c.self.view_is) ∙ c.in-Some.is))

pub returns-clause-any_cut : goal.returns-clause-any_cut
returns-clause-any_cut c = λ rest. answered_cut c.take_lines-taken.result c.args.self.now c.take_lines-taken.new.self
    c.answer.new.self c.args.piece.now rest c.answer.result (sym (ap (λ (r : Reading). r.stop) c.self.view_is) ∙ c.in_default.is)
    c.answer.ensures.taken c.answer.ensures.refused c.take_lines-taken.ensures.stop c.take_lines-taken.ensures.state

pub returns-clause-joins : goal.returns-clause-joins
returns-clause-joins c = answered_joins c.take_lines-taken.result c.args.self.now c.take_lines-taken.new.self c.answer.new.self c.args.piece.now c.answer.result
    (sym (ap (λ (r : Reading). r.stop) c.self.view_is) ∙ c.in_default.is) c.answer.ensures.taken c.answer.ensures.refused
    c.take_lines-taken.ensures.stop c.take_lines-taken.ensures.state
