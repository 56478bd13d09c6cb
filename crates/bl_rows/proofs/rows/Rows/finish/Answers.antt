use Rattle.std.proofs.Common.{ap, sym, ◌∙◌, Err, append-nil, ◌++◌, []}
use Rattle.bl_rows.specs.Reading.{Reading, call_answer, RowsRead}
use Rattle.bl_rows.proofs.Pieces.{unrefused_by, stopped_told}
use Rattle.bl_rows.proofs.rows.Rows.finish.Goals as goal

pub returns-in-Some-clause-answer : goal.returns-in-Some-clause-answer
returns-in-Some-clause-answer c = unrefused_by (Err c.in-Some.fault)
    (ap (λ (t : RowsRead). call_answer t.fault) (sym (stopped_told c.args.self.now [] c.in-Some.fault
    (sym (ap (λ (r : Reading). r.stop) c.self.view_is) ∙ c.in-Some.is))))

pub returns-in-Some-clause-rows : goal.returns-in-Some-clause-rows
returns-in-Some-clause-rows c = unrefused_by (Err c.in-Some.fault)
    (sym (append-nil c.args.into.now.items) ∙ ap (λ (t : RowsRead). c.args.into.now.items ++ t.rows)
    (sym (stopped_told c.args.self.now [] c.in-Some.fault (sym (ap (λ (r : Reading). r.stop) c.self.view_is) ∙ c.in-Some.is))))
