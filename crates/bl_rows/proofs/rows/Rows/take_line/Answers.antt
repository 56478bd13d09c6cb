use Rattle.std.proofs.Common.{sym}
use Rattle.bl_rows.proofs.Verdicts.{no_rows_past}
use Rattle.bl_rows.proofs.rows.Rows.take_line.Goals as goal

pub returns-in-Some-clause-rows : goal.returns-in-Some-clause-rows
returns-in-Some-clause-rows c = let e = c.in-Some.ensures in no_rows_past c.args.self.now.columns c.args.self.now.at _ c.in-Some.fault _ (sym c.in-Some.ensures)
