use Rattle.bl_ctext.proofs.Parts.{spellable-funcs}
use Rattle.bl_ctext.proofs.printer.print.Goals as goal

pub funcs-requires : goal.funcs-requires
funcs-requires c = spellable-funcs _ _ c.args.file.now.spellable
