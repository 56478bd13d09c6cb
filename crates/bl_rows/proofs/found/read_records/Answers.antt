use Rattle.std.proofs.Common.{length, sym, ◌∙◌, eqb-true}
use Rattle.bl_rows.proofs.Plain.{empty_line}
use Rattle.bl_rows.proofs.found.read_records.Goals as goal

pub returns-then-is_empty : goal.returns-then-is_empty
returns-then-is_empty c = empty_line c.args.line.now (eqb-true (length c.args.line.now) 0 (sym c.is_empty.ensures ∙ c.if-is_empty.true))
