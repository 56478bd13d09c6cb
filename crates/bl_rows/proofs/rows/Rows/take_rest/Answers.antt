use Rattle.std.proofs.Common.{ap, sym, ◌∙◌, append-nil, ◌++◌}
use Rattle.bl_rows.specs.Reading.{RowsRead, fault_at_end}
use Rattle.bl_rows.proofs.Pieces.{ended_clean, ended_rows, ended_fault, handed_by}
use Rattle.bl_rows.proofs.Scans.{map_ok, both_ok}
use Rattle.bl_rows.proofs.rows.Rows.take_rest.Goals as goal

pub returns-then-not-has_begun_line-clause-stop : goal.returns-then-not-has_begun_line-clause-stop
returns-then-not-has_begun_line-clause-stop c =
    ap (λ stop. fault_at_end c.args.self.now.at stop) c.requires
    ∙ sym (ap (λ (t : RowsRead). t.fault) (ended_clean c.args.self.now c.requires (c.has_begun_line.ensures.none c.if-not-has_begun_line.true)))

pub returns-then-not-has_begun_line-clause-rows : goal.returns-then-not-has_begun_line-clause-rows
returns-then-not-has_begun_line-clause-rows c =
    sym (append-nil c.args.into.now.items) ∙ ap (λ (t : RowsRead). c.args.into.now.items ++ t.rows)
    (sym (ended_clean c.args.self.now c.requires (c.has_begun_line.ensures.none c.if-not-has_begun_line.true)))

pub returns-clause-stop : goal.returns-clause-stop
returns-clause-stop c = both_ok c.take_line.result (λ stop at. ended_fault c.args.self.now c.take_line.new.self.stop c.take_line.new.self.at c.requires
    c.has_begun_line.ensures.feedless (c.has_begun_line.ensures.some c.if-not-has_begun_line.false) stop at) c.take_line.ensures.stop c.take_line.ensures.at

pub returns-clause-rows : goal.returns-clause-rows
returns-clause-rows c = map_ok c.take_line.result (λ rows. ended_rows c.args.self.now c.args.into.now.items c.take_line.new.into.items c.requires
    c.has_begun_line.ensures.feedless (c.has_begun_line.ensures.some c.if-not-has_begun_line.false) rows) c.take_line.ensures.rows

pub returns-clause-front : goal.returns-clause-front
returns-clause-front c = handed_by c.take_line.result c.args.into.now.items c.take_line.new.into.items _
    (map_ok c.take_line.result (λ rows. ended_rows c.args.self.now c.args.into.now.items c.take_line.new.into.items c.requires
    c.has_begun_line.ensures.feedless (c.has_begun_line.ensures.some c.if-not-has_begun_line.false) rows) c.take_line.ensures.rows)
    c.take_line.ensures.none
