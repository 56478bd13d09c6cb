use Rattle.std.proofs.Common.{ap, sym}
use Rattle.bl_rows.specs.Reading.{Reading}
use Rattle.bl_rows.proofs.Verdicts.{next_found}
use Rattle.bl_rows.proofs.rows.Rows.plain_row.Goals as goal

pub returns-in-Some-2 : goal.returns-in-Some-2
returns-in-Some-2 c = next_found c.args.self.now c.self.inside.columns c.self.inside.at c.in-Some.ticks c.args.rest.now c.in_ok-found.field-0
    c.in-Some-2.found (sym (ap (λ (r : Reading). r.columns) c.self.view_is)) (sym (ap (λ (r : Reading). r.at) c.self.view_is))
    (c.has_begun_line.ensures.none c.if-has_begun_line.false) c.if-self-ge-MOST_LINES.false c.in-Some.is c.if-branch-le-LONGEST_LINE.true
    c.in_ok-found.ensures c.in-Some-2.is
