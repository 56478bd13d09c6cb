-- Why a text has no file, and what is known of one that has.
use Rattle.bl_top_commands.proofs.Execs.{long_rejected, text_rejected, within}
use Rattle.bl_top_commands.proofs.text.file_in.Goals as goal

pub returns-then-text-eq-LIMIT-clause-rejected : goal.returns-then-text-eq-LIMIT-clause-rejected
returns-then-text-eq-LIMIT-clause-rejected c = long_rejected c.args.text.now c.too_large.result c.if-text-eq-LIMIT.true c.too_large.ensures

pub returns-in-Ok-clause-file : goal.returns-in-Ok-clause-file
returns-in-Ok-clause-file c = record {
  short = within _ c.requires c.if-text-eq-LIMIT.false;
  spells = c.in-Ok.ensures.file;
  placed = c.in-Ok.ensures.placed;
}

pub returns-in-Err-clause-rejected : goal.returns-in-Err-clause-rejected
returns-in-Err-clause-rejected c =
    text_rejected c.args.text.now c.in-Err.refusal c.end_at_text.result
    (within _ c.requires c.if-text-eq-LIMIT.false) c.in-Err.ensures.none c.in-Err.ensures.prelude c.in-Err.ensures.place
    c.end_at_text.ensures
