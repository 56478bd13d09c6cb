use Rattle.std.proofs.Common.{◌∙◌}
use Rattle.bl_ctext.proofs.Texts.{fresh, prelude_bytes}
use Rattle.bl_ctext.proofs.writer.Writer.new.Goals as goal

pub invariant_of-result : goal.invariant_of-result
invariant_of-result c = (fresh c.in_ok-text.text.items (c.in_ok-text.ensures.items ∙ prelude_bytes)).text

pub returns : goal.returns
returns c = (fresh c.in_ok-text.text.items (c.in_ok-text.ensures.items ∙ prelude_bytes)).tokens
