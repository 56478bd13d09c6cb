use Rattle.std.proofs.Common.{sym, ◌∙◌}
use Rattle.bl_ctext_semantics.specs.Parts.{parts_of}
use Rattle.bl_ctext_semantics.proofs.WellFormedLemmas.{well_formed}
use Rattle.bl_ctext_semantics.proofs.check.check.Goals as goal

pub returns-in-Ok-None-clause-formed : goal.returns-in-Ok-None-clause-formed
returns-in-Ok-None-clause-formed c = well_formed (parts_of c.args.file.now) (sym c.in-Ok-None.ensures ∙ c.in-Ok-None.field-0-is)
